use Rattle.std.proofs.Common.{flat_map, vec_len}
use Rattle.plant_types.specs.declared.net.BridgePlan.{BridgePlan}
use Rattle.live_run.specs.Ends.{Crossing, sides_of_ends}
use Rattle.live_run.specs.Homes.{IsAtHome}
use Rattle.live_run.proofs.Gathering.{Gathering}
use Rattle.live_run.proofs.dealing.gather_ends.Given as goal

abbrev pub invariant-loop-station : goal.invariant-loop-station
invariant-loop-station g l =
    Gathering l.homes (flat_map sides_of_ends)
    (λ (plan : BridgePlan) (station : Crossing).
    IsAtHome l.homes plan.left_net station.ring.left
    × IsAtHome l.homes plan.right_net station.ring.right) l.plans
    l.fn.stations.items l.fn.purses l.purses l.stations.items l.logs.items l.done l.place

abbrev pub decreases-loop-station : goal.decreases-loop-station
decreases-loop-station g l = vec_len l.stations
