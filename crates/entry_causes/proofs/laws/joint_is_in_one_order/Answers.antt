use Rattle.entry_causes.proofs.Joint.{joint-order}
use Rattle.entry_causes.proofs.laws.joint_is_in_one_order.Goals as goal

pub returns : goal.returns
returns c = joint-order
