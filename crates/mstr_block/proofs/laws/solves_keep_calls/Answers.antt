use Rattle.mstr_block.proofs.Keeping.{solves-keep_calls}
use Rattle.mstr_block.proofs.laws.solves_keep_calls.Goals as goal

pub returns : goal.returns
returns c = solves-keep_calls
