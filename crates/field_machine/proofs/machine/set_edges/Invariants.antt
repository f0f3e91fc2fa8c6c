use Rattle.std.proofs.Common.{◌≡◌, drop}
use Rattle.field_machine.specs.Keys.{edges_set}
use Rattle.field_machine.proofs.machine.set_edges.Given as goal

abbrev pub invariant-loop-index : goal.invariant-loop-index
invariant-loop-index l = record {
  grids : l.ladder.grids ≡ l.fn.ladder.grids;
  edges : edges_set l.ladder.edges (drop l.index l.counters) (drop l.index l.words)
      ≡ edges_set l.fn.ladder.edges l.counters l.words;
}
