use Rattle.call_order.proofs.Names.{in-order}
use Rattle.call_order.proofs.laws.calls_stand_in_order.Goals as goal

pub returns : goal.returns
returns c = in-order c.only_its_target.ensures c.reply_to_its_caller.ensures
