use Rattle.std.proofs.Common.{◌≡◌, take}
use Rattle.std.specs.Prelude.{map}
use Rattle.ladder_solver.proofs.EdgeBits.{cleared_bits}
use Rattle.ladder_solver.proofs.edges.Edges.cleared.Given as goal

abbrev pub invariant-loop-segment : goal.invariant-loop-segment
invariant-loop-segment l =
    map (λ networks. networks.items) l.edges.items ≡ cleared_bits (take l.segment-index l.segments)
