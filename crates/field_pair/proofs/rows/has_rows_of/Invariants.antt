use Rattle.std.proofs.Common.{take}
use Rattle.side_runs.specs.Beside.{HasRowsOf}
use Rattle.field_pair.proofs.rows.has_rows_of.Given as goal

abbrev pub invariant-loop-row : goal.invariant-loop-row
invariant-loop-row l =
    HasRowsOf (take l.row-index l.script) l.other
