use Rattle.mstr_block.proofs.Taking.{calls-are_taken_in_order}
use Rattle.mstr_block.proofs.laws.calls_are_taken_in_order.Goals as goal

pub returns : goal.returns
returns c = calls-are_taken_in_order
