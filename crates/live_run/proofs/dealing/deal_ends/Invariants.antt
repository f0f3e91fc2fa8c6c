use Rattle.std.proofs.Common.{◌≡◌, flat_map, length, vec_len, vec_capacity}
use Rattle.live_run.specs.Ends.{IsFreshBridge, ends_of_plan, sides_of_ends}
use Rattle.live_run.proofs.Dealt.{Dealing}
use Rattle.live_run.proofs.dealing.deal_ends.Given as goal

abbrev pub invariant-loop-index : goal.invariant-loop-index
invariant-loop-index g l = record {
  filled : vec_len l.room ≡ l.index;
  capacity : vec_capacity l.room ≡ length l.plans;
  dealing : Dealing l.homes (flat_map ends_of_plan) (flat_map sides_of_ends)
      (IsFreshBridge l.homes) l.plans l.fn.purses l.purses l.index l.room.items;
}
