use Rattle.std.proofs.Common.{◌≡◌, ◌+◌, ◌++◌}
use Rattle.scan_order.specs.Due.{full_scan, rows_from}
use Rattle.field_machine.proofs.Exchanging.{exchanges_by}
use Rattle.field_machine.proofs.exchanges.exchanges_of.Given as goal

abbrev pub invariant-loop-row : goal.invariant-loop-row
invariant-loop-row l =
    l.exchanges.items ++ exchanges_by l.plan l.left (rows_from l.plan (l.row-index + 1))
    ≡ exchanges_by l.plan l.way (full_scan l.plan)
