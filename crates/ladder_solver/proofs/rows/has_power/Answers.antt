use Rattle.std.proofs.Common.{◌≡◌, ◌==◌, ◌∙◌, ap}
use Rattle.std.specs.Prelude.{not, bit_and}
use Rattle.ladder_solver.proofs.Spread.{row_tested}
use Rattle.ladder_solver.proofs.rows.has_power.Goals as goal

pub returns : goal.returns
returns c row is =
    ap (λ mask. not (bit_and c.args.left mask == 0)) is ∙ row_tested c.args.left row
