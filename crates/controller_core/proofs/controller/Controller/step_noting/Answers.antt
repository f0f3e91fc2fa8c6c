use Rattle.std.proofs.Common.{◌≡◌, rules, true, ◌&&◌, ◌++◌, ◌∷◌, [], List, length, sym, ap, ◌∙◌}
use Rattle.std.proofs.Common.{arith}
use Rattle.std.specs.Prelude.{not}
use Rattle.std.proofs.lemmas.Grind.{common_steps}
use Rattle.scan_order.specs.declared.due.ScanStep.{ScanStep}
use Rattle.controller_core.specs.declared.fixed.Fixed.{Fixed}
use Rattle.controller_core.specs.declared.entry.Entry.{Entry}
use Rattle.controller_core.specs.Event.{entry_of, scan_steps}
use Rattle.controller_core.specs.Machine.{state_is}
use Rattle.controller_core.specs.Replay.{ControllerState}
use Rattle.controller_core.specs.Scans.{closes_scan, gone_after, left_in_scan}
use Rattle.controller_core.specs.Controller.{ControllerIs}
use Rattle.controller_core.proofs.Keeping.{can_solve, gone_made, kept_made, room_step}
use Rattle.controller_core.proofs.Keeping.{scan_steps-more, state_as, timely_enough, went_on_step}
use Rattle.controller_core.proofs.Places.{left-long, not_done}
use Rattle.controller_core.proofs.Stepping.{conducts_made, step_made, step_none}
use Rattle.controller_core.proofs.NoteLemmas.{noted_step}
use Rattle.controller_core.proofs.controller.Controller.step_noting.Goals as goal

pub next_due-step-requires-clause-place : goal.next_due-step-requires-clause-place
next_due-step-requires-clause-place c = c.self.invariant.kept.place

pub next_due-step-requires-clause-rows : goal.next_due-step-requires-clause-rows
next_due-step-requires-clause-rows c = c.self.invariant.kept.sound.runs.plan.count

-- scans are few enough to be numbered
pub overflow_add-scan : goal.overflow_add-scan
overflow_add-scan c =
    let i = c.self.inside in
    let runs = c.self.invariant.kept.sound.runs in
    let timely = timely_enough i.machine.fixed i.machine i.history.items i.at c.self.invariant.kept
    runs.scans runs.plan.count in
    let few = timely.gone in
    omega arith

pub perform_noting-entry-requires-clause-timely : goal.perform_noting-entry-requires-clause-timely
perform_noting-entry-requires-clause-timely c =
    let i = c.self.inside in
    let runs = c.self.invariant.kept.sound.runs in
    timely_enough i.machine.fixed i.machine i.history.items i.at c.self.invariant.kept runs.scans
    runs.plan.count

pub perform_noting-entry-requires-clause-watch : goal.perform_noting-entry-requires-clause-watch
perform_noting-entry-requires-clause-watch c =
    let i = c.self.inside in
    can_solve i.machine.fixed i.machine i.at c.next_due-step.result c.next_due-step.ensures.next
    (search rules) c.self.invariant.kept.watched

-- what is noted has room where a step is made
pub note_panel-requires-clause-room : goal.note_panel-requires-clause-room
note_panel-requires-clause-room c =
    let i = c.self.inside in
    let does = c.perform_noting-entry.ensures.does in
    let kept = c.self.invariant.kept in
    let step = c.next_due-step.result in
    let goes : i.machine.stop ≡ 0 = search rules in
    let lt = not_done i.machine.fixed.scans i.at i.machine.gone kept.within
    (sym c.if-is_done.ensures) in
    let got = step_made i.machine.fixed i.machine c.perform_noting-entry.new.self i.history.items i.at
    i.reserved step
    c.args.self.now c.self.view_is kept goes lt c.next_due-step.ensures.next does.state in
    let has : i.reserved ≡ true = ap (λ (v : ControllerIs). v.reserved) c.self.view_is
    ∙ c.requires.reserved got.2 in
    let room = c.self.invariant.noted.room has in
    let panel = ap (λ (f : Fixed). length f.plan.panel) does.fixed in
    grind (arith, common_steps, room, panel)

pub note_panel-requires-clause-sound : goal.note_panel-requires-clause-sound
note_panel-requires-clause-sound c = c.perform_noting-entry.ensures.does.sound

pub note-requires : goal.note-requires
note-requires c =
    let i = c.self.inside in
    let does = c.perform_noting-entry.ensures.does in
    let kept = c.self.invariant.kept in
    let step = c.next_due-step.result in
    let goes : i.machine.stop ≡ 0 = search rules in
    let lt = not_done i.machine.fixed.scans i.at i.machine.gone kept.within
    (sym c.if-is_done.ensures) in
    let got = step_made i.machine.fixed i.machine c.perform_noting-entry.new.self i.history.items i.at
    i.reserved step
    c.args.self.now c.self.view_is kept goes lt c.next_due-step.ensures.next does.state in
    let has : i.reserved ≡ true = ap (λ (v : ControllerIs). v.reserved) c.self.view_is
    ∙ c.requires.reserved got.2 in
    let room = c.self.invariant.room has in
    let some = left-long i.machine.fixed (scan_steps i.history.items) i.machine.gone i.at kept.steps
    in
    grind (arith, common_steps, room, some)

pub returns-then-is_done-clause-grows : goal.returns-then-is_done-clause-grows
returns-then-is_done-clause-grows c =
    let i = c.self.inside in
    sym (step_none i.machine.fixed i.machine i.history.items i.at i.reserved c.args.self.now
    c.self.view_is c.self.invariant.kept
    (search rules) (sym c.if-is_done.ensures)).0

pub returns-then-is_done-clause-answer : goal.returns-then-is_done-clause-answer
returns-then-is_done-clause-answer c =
    let i = c.self.inside in
    sym (step_none i.machine.fixed i.machine i.history.items i.at i.reserved c.args.self.now
    c.self.view_is c.self.invariant.kept
    (search rules) (sym c.if-is_done.ensures)).1

pub returns-clause-went_on : goal.returns-clause-went_on
returns-clause-went_on c =
    let i = c.self.inside in
    let kept = c.self.invariant.kept in
    let step = c.next_due-step.result in
    let does = c.perform_noting-entry.ensures.does in
    let n = c.perform_noting-entry.new.self in
    let l = c.note.new.history.items in
    let to = c.place_after-at.result in
    let goes : i.machine.stop ≡ 0 = search rules in
    let lt = not_done i.machine.fixed.scans i.at i.machine.gone kept.within
    (sym c.if-is_done.ensures) in
    let h : l ≡ i.history.items ++ entry_of i.machine.fixed (state_is i.machine) step ∷ [] =
    c.note.ensures.items
    ∙ ap (λ (x : Entry). i.history.items ++ x ∷ []) c.perform_noting-entry.ensures.entry in
    let new = kept_made i.machine.fixed i.machine n i.history.items l i.at to step
    kept goes lt c.next_due-step.ensures.next c.next_due-step.ensures.step does h
    c.place_after-at.ensures in
    went_on_step i.machine.fixed i.machine n i.history.items l i.at to i.reserved
    c.keeps_room-reserved.result step
    c.args.self.now c.self.view_is kept new does.fixed h

pub invariant_of-self : goal.invariant_of-self
invariant_of-self c =
    let i = c.self.inside in
    let kept = c.self.invariant.kept in
    let step = c.next_due-step.result in
    let next = c.next_due-step.ensures.next in
    let does = c.perform_noting-entry.ensures.does in
    let n = c.perform_noting-entry.new.self in
    let goes : i.machine.stop ≡ 0 = search rules in
    let lt = not_done i.machine.fixed.scans i.at i.machine.gone kept.within
    (sym c.if-is_done.ensures) in
    let h : c.note.new.history.items
    ≡ i.history.items ++ entry_of i.machine.fixed (state_is i.machine) step ∷ [] =
    c.note.ensures.items
    ∙ ap (λ (x : Entry). i.history.items ++ x ∷ []) c.perform_noting-entry.ensures.entry in
    let new = kept_made i.machine.fixed i.machine n i.history.items c.note.new.history.items i.at
    c.place_after-at.result step
    kept goes lt next c.next_due-step.ensures.step does h c.place_after-at.ensures in
    record {
      kept = new;
      noted = noted_step i.machine.fixed (state_is i.machine) n i.history.items
          c.note.new.history.items step i.reserved
          c.keeps_room-reserved.result i.values.items c.note_panel.new.values.items _ _ does.fixed h
          new.state c.keeps_room-reserved.ensures
          c.note_panel.ensures.values c.note_panel.ensures.capacity c.self.invariant.noted;
      room = λ is.
          let made = scan_steps i.history.items in
          let two = room_step i.reserved i.machine.fixed made i.machine.gone step n.stop
          (sym c.keeps_room-reserved.ensures ∙ is) in
          let before = c.self.invariant.room two.0 in
          let less = two.1 in
          let some = left-long i.machine.fixed made i.machine.gone i.at kept.steps in
          let gone = ap (λ (t : ControllerState). t.gone) does.state
          ∙ gone_made i.machine.fixed (state_is i.machine) step in
          let steps = ap scan_steps h ∙ scan_steps-more i.machine.fixed (state_is i.machine)
          i.history.items step in
          let plan = ap (λ (f : Fixed). length (left_in_scan f n.gone
          (scan_steps c.note.new.history.items))) does.fixed in
          let scan = ap (λ x. length (left_in_scan i.machine.fixed x
          (scan_steps c.note.new.history.items))) gone in
          let behind = ap (λ (l : List ScanStep). length (left_in_scan i.machine.fixed
          (gone_after step i.machine.gone) l)) steps in
          grind (arith, common_steps, before, less, some, plan, scan, behind);
    }

pub returns-clause-grows : goal.returns-clause-grows
returns-clause-grows c =
    let i = c.self.inside in
    let kept = c.self.invariant.kept in
    let step = c.next_due-step.result in
    let does = c.perform_noting-entry.ensures.does in
    let goes : i.machine.stop ≡ 0 = search rules in
    let lt = not_done i.machine.fixed.scans i.at i.machine.gone kept.within
    (sym c.if-is_done.ensures) in
    let got = step_made i.machine.fixed i.machine c.perform_noting-entry.new.self i.history.items i.at
    i.reserved step
    c.args.self.now c.self.view_is kept goes lt c.next_due-step.ensures.next does.state in
    let h : c.note.new.history.items
    ≡ i.history.items ++ entry_of i.machine.fixed (state_is i.machine) step ∷ [] =
    c.note.ensures.items
    ∙ ap (λ (x : Entry). i.history.items ++ x ∷ []) c.perform_noting-entry.ensures.entry in
    let r : c.keeps_room-reserved.result ≡ (i.reserved
    && not (closes_scan step c.perform_noting-entry.new.self.stop)) = c.keeps_room-reserved.ensures in
    let made : record {
      fixed = c.perform_noting-entry.new.self.fixed;
      history = c.note.new.history.items;
      reserved = c.keeps_room-reserved.result;
    }
    ≡ record {
      fixed = i.machine.fixed;
      history = i.history.items ++ entry_of i.machine.fixed
          (state_is i.machine) step ∷ [];
      reserved = i.reserved && not (closes_scan step c.perform_noting-entry.new.self.stop);
    } =
    λ j. record { fixed = does.fixed j; history = h j; reserved = r j } in
    made ∙ sym got.0

pub returns-clause-answer : goal.returns-clause-answer
returns-clause-answer c =
    let i = c.self.inside in
    let does = c.perform_noting-entry.ensures.does in
    let kept = c.self.invariant.kept in
    let goes : i.machine.stop ≡ 0 = search rules in
    let lt = not_done i.machine.fixed.scans i.at i.machine.gone kept.within
    (sym c.if-is_done.ensures) in
    let got = step_made i.machine.fixed i.machine c.perform_noting-entry.new.self i.history.items i.at
    i.reserved c.next_due-step.result
    c.args.self.now c.self.view_is kept goes lt c.next_due-step.ensures.next does.state in
    sym got.1

pub perform_noting-entry-requires-clause-room : goal.perform_noting-entry-requires-clause-room
perform_noting-entry-requires-clause-room c =
    let i = c.self.inside in
    let left = ap (λ (t : ControllerState). t.solving.left) (state_as i.machine.fixed i.machine
    i.history.items i.at i.reserved c.args.self.now c.self.view_is c.self.invariant.kept) in
    omega (arith, left, c.requires.room)

pub returns-clause-noted : goal.returns-clause-noted
returns-clause-noted c =
    let i = c.self.inside in
    let kept = c.self.invariant.kept in
    let goes : i.machine.stop ≡ 0 = search rules in
    let lt = not_done i.machine.fixed.scans i.at i.machine.gone kept.within
    (sym c.if-is_done.ensures) in
    c.perform_noting-entry.ensures.noted
    ∙ ap (λ xs. c.args.notes.now.items ++ xs)
    (sym (conducts_made i.machine.fixed i.machine i.history.items i.at i.reserved
    c.next_due-step.result c.args.self.now c.self.view_is kept goes lt c.next_due-step.ensures.next))
