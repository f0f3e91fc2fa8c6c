use Rattle.std.proofs.Common.{◌≡◌, ◌+◌, ◌<◌}
use Rattle.scan_order.specs.Due.{full_scan, rows_from}
use Rattle.field_runs.specs.Scan.{scanned}
use Rattle.field_machine.specs.Choices.{told_by}
use Rattle.field_machine.specs.Work.{IsReadyWork, work_state}
use Rattle.field_machine.proofs.RowsScanned.{behind_way}
use Rattle.field_machine.proofs.field.Field.scan.Given as goal

abbrev pub invariant-rows : goal.invariant-rows
invariant-rows l = record {
  ready : IsReadyWork l.self.fixed.plan l.work;
  goes : l.work.stop ≡ 0;
  watch : 0 < l.work.watch.left;
  behind : scanned l.self.fixed (told_by l.self.fixed.plan (full_scan l.self.fixed.plan) l.fn.way)
      (work_state l.fn.work)
      ≡ behind_way l.self.fixed l.left (work_state l.work)
      (rows_from l.self.fixed.plan (l.index + 1));
}
