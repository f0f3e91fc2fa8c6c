use Rattle.controller_core.proofs.CallLaws.{calls}
use Rattle.controller_core.proofs.laws.calls_follow.Goals as goal

pub returns : goal.returns
returns c = calls c.calls_are_taken_in_order.ensures c.finishes_end_one_call.ensures
