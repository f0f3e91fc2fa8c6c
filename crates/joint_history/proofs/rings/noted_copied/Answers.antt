use Rattle.std.proofs.Common.{arith}
use Rattle.joint_history.proofs.JoinedRings.{entries-next}
use Rattle.joint_history.proofs.rings.noted_copied.Goals as goal

pub loop-ring-preserved : goal.loop-ring-preserved
loop-ring-preserved c =
    entries-next c.args.rings.now c.loop-ring.ring-index c.ring-item.result _ _ _ (omega arith)
    c.ring-item.is c.loop-ring.invariant c.as_slice.ensures c.in_ok-add_copied.ensures
