use Rattle.std.proofs.Common.{◌≡◌, ◌+◌, ◌/◌, ◌<◌, ◌≤◌, List, Some, None}
use Rattle.std.proofs.Common.{get_or, length, sym, ap, subst, ◌∙◌, arith}
use Rattle.std.specs.Prelude.{slice_get}
use Rattle.std.proofs.lemmas.Bool.{eq-eqb}
use Rattle.plant_types.specs.declared.plan.OrderRow.{OrderRow}
use Rattle.scan_order.specs.Due.{full_scan, rows_from}
use Rattle.controller_core.specs.Replay.{ControllerState}
use Rattle.field_runs.specs.Alike.{IsAlike}
use Rattle.field_runs.specs.Scan.{brought_to, scanned}
use Rattle.field_machine.specs.Choices.{choices_for, told_by}
use Rattle.field_machine.specs.Work.{work_state}
use Rattle.field_machine.proofs.Items.{get-there}
use Rattle.field_machine.proofs.RowsScanned.{behind_way, not-zero, row-done, rows-over, rows-stopped}
use Rattle.field_machine.proofs.RowsScanned.{scan-begun, scan-stopped}
use Rattle.field_machine.proofs.Ways.{choice-at, choices-some}
use Rattle.field_machine.proofs.field.Field.scan.Goals as goal

abbrev no-row : OrderRow
no-row = record { segment = 0; control = None; input = None; output = None }

pub returns-then-work-ne0-clause-behind : goal.returns-then-work-ne0-clause-behind
returns-then-work-ne0-clause-behind c =
    let fixed = c.args.self.now.fixed in
    scan-stopped fixed (told_by fixed.plan (full_scan fixed.plan) c.args.way)
    (work_state c.args.work.now) (not-zero c.args.work.now.stop c.if-work-ne0.true)

pub rows-init : goal.rows-init
rows-init c =
    let fixed = c.args.self.now.fixed in
    let s = work_state c.args.work.now in
    record {
      ready = c.begin.ensures.ready c.requires.ready;
      goes = ap (λ (q : ControllerState). q.stop) c.begin.ensures.state ∙ c.if-work-ne0.false;
      watch = let left = c.begin.ensures.watch in let some = c.requires.field.runs.watchdog in
          omega (arith, left, some);
      behind = scan-begun fixed c.args.way s (eq-eqb c.args.work.now.stop 0 c.if-work-ne0.false)
          ∙ sym (ap (λ (q : ControllerState). behind_way fixed c.args.way q
          (rows_from fixed.plan 1)) c.begin.ensures.state);
    }

pub returns-then-work-ne0-2-clause-behind : goal.returns-then-work-ne0-2-clause-behind
returns-then-work-ne0-2-clause-behind c =
    let fixed = c.args.self.now.fixed in
    let i = c.rows.index in
    let orders = c.as_slice-row-items.result.now in
    let same : orders ≡ fixed.plan.orders = c.as_slice-row-items.ensures in
    let within : i < length fixed.plan.orders =
    subst (λ (l : List OrderRow). i < length l) same c.rows-test.true in
    let row = get_or orders i no-row in
    let at : slice_get fixed.plan.orders i ≡ Some row =
    subst (λ (l : List OrderRow). slice_get l i ≡ Some row) same
    (get-there orders i no-row c.rows-test.true) in
    let many = c.index-many.result.now in
    let count : many ≡ choices_for fixed.plan.drops row.input =
    c.index-many.ensures ∙ (choice-at fixed.plan c.args.self.now.choices.items i many no-row
    c.requires.field.choices_are within
    ∙ ap (λ (l : List OrderRow). choices_for fixed.plan.drops (get_or l i no-row).input)
    (sym same)) in
    let after = work_state c.solve.new.work in
    let brought = c.bring.ensures.state
    ∙ ap (λ n. brought_to fixed.plan.drops row.input n
    (work_state c.rows.work)) c.row_in_way.ensures in
    let behind = row-done fixed i c.rows.left many row (work_state c.rows.work)
    (work_state c.bring.new.work) after
    (scanned fixed (told_by fixed.plan (full_scan fixed.plan) c.args.way)
    (work_state c.args.work.now)) at within c.rows.invariant.goes count brought
    c.solve.ensures.state c.rows.invariant.behind in
    subst (λ (q : ControllerState). IsAlike q after) (sym behind)
    (rows-stopped fixed (i + 1) (c.rows.left / many) after
    (not-zero c.solve.new.work.stop c.if-work-ne0-2.true))

pub rows-preserved : goal.rows-preserved
rows-preserved c =
    let fixed = c.args.self.now.fixed in
    let i = c.rows.index in
    let orders = c.as_slice-row-items.result.now in
    let same : orders ≡ fixed.plan.orders = c.as_slice-row-items.ensures in
    let within : i < length fixed.plan.orders =
    subst (λ (l : List OrderRow). i < length l) same c.rows-test.true in
    let row = get_or orders i no-row in
    let at : slice_get fixed.plan.orders i ≡ Some row =
    subst (λ (l : List OrderRow). slice_get l i ≡ Some row) same
    (get-there orders i no-row c.rows-test.true) in
    let many = c.index-many.result.now in
    let count : many ≡ choices_for fixed.plan.drops row.input =
    c.index-many.ensures ∙ (choice-at fixed.plan c.args.self.now.choices.items i many no-row
    c.requires.field.choices_are within
    ∙ ap (λ (l : List OrderRow). choices_for fixed.plan.drops (get_or l i no-row).input)
    (sym same)) in
    let after = work_state c.solve.new.work in
    let brought = c.bring.ensures.state
    ∙ ap (λ n. brought_to fixed.plan.drops row.input n
    (work_state c.rows.work)) c.row_in_way.ensures in
    record {
      ready = c.solve.ensures.ready;
      goes = c.if-work-ne0-2.false;
      watch = c.solve.ensures.watch c.if-work-ne0-2.false;
      behind = row-done fixed i c.rows.left many row (work_state c.rows.work)
          (work_state c.bring.new.work) after
          (scanned fixed (told_by fixed.plan (full_scan fixed.plan) c.args.way)
          (work_state c.args.work.now)) at within c.rows.invariant.goes count brought
          c.solve.ensures.state c.rows.invariant.behind;
    }

pub returns-clause-behind : goal.returns-clause-behind
returns-clause-behind c =
    let fixed = c.args.self.now.fixed in
    let same = ap (λ (l : List OrderRow). length l) c.as_slice-row-items.ensures in
    let over = c.rows-test.false in
    let past : length fixed.plan.orders ≤ c.rows.index = omega (arith, same, over) in
    subst (λ (q : ControllerState). IsAlike q (work_state c.rows.work))
    (sym c.rows.invariant.behind)
    (rows-over fixed c.rows.index c.rows.left (work_state c.rows.work) past)

-- there is a row for each exchange
pub row_in_way-requires : goal.row_in_way-requires
row_in_way-requires c =
    let fixed = c.args.self.now.fixed in
    let i = c.rows.index in
    let orders = c.as_slice-row-items.result.now in
    let within : i < length fixed.plan.orders =
    subst (λ (l : List OrderRow). i < length l) c.as_slice-row-items.ensures c.rows-test.true in
    let many = c.index-many.result.now in
    let count : many ≡ choices_for fixed.plan.drops (get_or fixed.plan.orders i no-row).input =
    c.index-many.ensures ∙ choice-at fixed.plan c.args.self.now.choices.items i many no-row
    c.requires.field.choices_are within in
    let some = choices-some fixed.plan.drops (get_or fixed.plan.orders i no-row).input in
    omega (arith, count, some)
