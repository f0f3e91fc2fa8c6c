use Rattle.mstr_block.proofs.Launching.{stays-table}
use Rattle.mstr_block.proofs.laws.stays_table.Goals as goal

pub returns : goal.returns
returns c = stays-table
