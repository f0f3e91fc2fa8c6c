use Rattle.std.proofs.Common.{◌≡◌, ◌++◌, drop}
use Rattle.field_machine.specs.Keys.{edge_words}
use Rattle.field_machine.proofs.field.Field.push_edges.Given as goal

abbrev pub invariant-loop-place : goal.invariant-loop-place
invariant-loop-place l =
    l.key.items ++ edge_words l.ladder.edges (drop l.place-index l.self.counters.items)
    ≡ l.fn.key.items ++ edge_words l.ladder.edges l.self.counters.items
