use Rattle.std.proofs.Common.{◌<◌}
use Rattle.std.specs.List.{All}
use Rattle.station_laws.specs.Bound.{Bound, KeepsLaw, bounds_of}
use Rattle.joint_law.proofs.law_spots.law_spot.Given as goal

abbrev pub invariant-loop-node : goal.invariant-loop-node
invariant-loop-node l =
    All (λ (s : Bound). s.node < l.node → KeepsLaw l.law s) (bounds_of l.joint)
