use Rattle.mstr_block.proofs.Launching.{solves-give_new_numbers}
use Rattle.mstr_block.proofs.laws.solves_give_new_numbers.Goals as goal

pub returns : goal.returns
returns c = solves-give_new_numbers
