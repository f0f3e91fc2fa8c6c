use Rattle.std.proofs.Common.{◌≡◌, length, map, vec_len, vec_capacity}
use Rattle.live_run.specs.Dealing.{IsFreshSeat, side_of_seat}
use Rattle.live_run.proofs.Dealt.{Dealing}
use Rattle.live_run.proofs.dealing.deal.Given as goal

abbrev pub invariant-loop-index : goal.invariant-loop-index
invariant-loop-index g l = record {
  filled : vec_len l.room ≡ l.index;
  capacity : vec_capacity l.room ≡ length l.plans;
  dealing : Dealing l.homes (map g.P.HasNode.node_of) (map side_of_seat)
      (λ plan. IsFreshSeat l.homes (g.P.HasNode.network_of plan) (g.P.HasNode.node_of plan))
      l.plans l.fn.purses l.purses l.index l.room.items;
}
