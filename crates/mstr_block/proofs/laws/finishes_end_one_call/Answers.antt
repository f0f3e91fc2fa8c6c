use Rattle.mstr_block.proofs.Ending.{finishes-end_one_call}
use Rattle.mstr_block.proofs.laws.finishes_end_one_call.Goals as goal

pub returns : goal.returns
returns c = finishes-end_one_call
