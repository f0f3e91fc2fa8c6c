use Rattle.std.proofs.Common.{take}
use Rattle.field_pair.specs.Rows.{HoldsRows}
use Rattle.field_pair.proofs.rows.rows_of.Given as goal

abbrev pub invariant-loop-row : goal.invariant-loop-row
invariant-loop-row l =
    HoldsRows l.rows.keys (take l.row-index l.script)
