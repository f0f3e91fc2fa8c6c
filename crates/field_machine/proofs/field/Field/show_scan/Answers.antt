use Rattle.std.proofs.Common.{List, ℕ, ap, subst, ◌∙◌}
use Rattle.std.specs.Prelude.{Result, Ok, Err, OnOk}
use Rattle.scan_order.specs.Due.{full_scan}
use Rattle.controller_core.specs.Replay.{ControllerState}
use Rattle.field_runs.specs.Alike.{IsAlike}
use Rattle.field_runs.specs.Scan.{scanned}
use Rattle.field_machine.specs.Choices.{told_by}
use Rattle.field_machine.specs.Keys.{state_in}
use Rattle.field_machine.specs.Work.{work_state}
use Rattle.field_machine.proofs.field.Field.show_scan.Goals as goal

-- where a result is Ok, what holds anyhow, and what follows from its clause
ok-so : {T E : Type 0} (r : Result T E) (A : Type 0) → A → OnOk r A
ok-so (Ok x) A a = a
ok-so (Err e) A a = tt

on-ok : {T E : Type 0} (r : Result T E) (A B : Type 0) → OnOk r A → (A → B) → OnOk r B
on-ok (Ok x) A B h f = f h
on-ok (Err e) A B h f = tt

pub returns-clause-work : goal.returns-clause-work
returns-clause-work c = ok-so c.pack.result _ c.scan.ensures.ready.sound

pub returns-clause-shows : goal.returns-clause-shows
returns-clause-shows c =
    let fixed = c.args.self.now.fixed in
    let counters = c.args.self.now.counters.items in
    let rows = told_by fixed.plan (full_scan fixed.plan) c.args.way in
    let state = c.in_ok-unpack.ensures.state
    ∙ ap (λ (key : List ℕ). state_in fixed.plan counters key) c.as_slice.ensures.value in
    on-ok c.pack.result _ _ c.pack.ensures (λ is. record {
      after = work_state c.scan.new.work;
      behind = subst (λ (q : ControllerState). IsAlike (scanned fixed rows q)
          (work_state c.scan.new.work)) state c.scan.ensures.behind;
      key = is;
      values = c.in_ok-show_panel.ensures;
    })
