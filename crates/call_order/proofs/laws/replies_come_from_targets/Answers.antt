use Rattle.call_order.proofs.Targets.{from-targets}
use Rattle.call_order.proofs.laws.replies_come_from_targets.Goals as goal

pub returns : goal.returns
returns c = from-targets c.only_its_target.ensures c.reply_to_its_caller.ensures
