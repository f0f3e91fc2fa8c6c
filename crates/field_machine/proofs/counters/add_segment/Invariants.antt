use Rattle.std.proofs.Common.{◌≡◌, ◌+◌, ◌++◌, drop}
use Rattle.ladder_solver.specs.Edges.{places_by}
use Rattle.field_machine.specs.Counters.{counters_in}
use Rattle.field_machine.proofs.counters.add_segment.Given as goal

abbrev pub invariant-loop-index : goal.invariant-loop-index
invariant-loop-index l =
    l.places.items ++ places_by (λ number network. counters_in l.segment number network.cells)
    (l.index + 1) (drop l.index l.networks)
    ≡ l.fn.places.items ++ places_by (λ number network.
    counters_in l.segment number network.cells) 1 l.networks
