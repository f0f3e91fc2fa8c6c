use Rattle.std.proofs.Common.{map, vec_len}
use Rattle.live_run.specs.Dealing.{side_of_seat}
use Rattle.live_run.specs.Homes.{IsAtHome}
use Rattle.live_run.proofs.Gathering.{Gathering}
use Rattle.live_run.proofs.dealing.gather.Given as goal

abbrev pub invariant-loop-station : goal.invariant-loop-station
invariant-loop-station g l =
    Gathering l.homes (map side_of_seat)
    (λ plan seat. IsAtHome l.homes (g.P.HasNode.network_of plan) (side_of_seat seat)) l.plans
    l.fn.stations.items l.fn.purses l.purses l.stations.items l.logs.items l.done l.place

abbrev pub decreases-loop-station : goal.decreases-loop-station
decreases-loop-station g l = vec_len l.stations
