use Rattle.std.proofs.Common.{◌≡◌, ◌+◌, ◌++◌, drop}
use Rattle.ladder_solver.specs.Edges.{places_by}
use Rattle.field_machine.specs.Counters.{counters_in, counters_of}
use Rattle.field_machine.proofs.counters.counters_of.Given as goal

abbrev pub invariant-loop-index : goal.invariant-loop-index
invariant-loop-index l =
    l.places.items ++ places_by (λ segment of_segment. places_by
    (λ number network. counters_in segment number network.cells) 1 of_segment.networks)
    (l.index + 1) (drop l.index l.segments)
    ≡ counters_of l.segments
