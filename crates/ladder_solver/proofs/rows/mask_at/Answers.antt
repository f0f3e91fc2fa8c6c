use Rattle.ladder_solver.proofs.RowMasks.{shifted_row}
use Rattle.ladder_solver.proofs.rows.mask_at.Goals as goal

pub returns : goal.returns
returns c = shifted_row c.args.row c.requires.first c.requires.last
