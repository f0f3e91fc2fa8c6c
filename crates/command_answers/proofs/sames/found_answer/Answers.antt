use Rattle.std.proofs.Common.{ℕ, inl, inr, refl, subst}
use Rattle.controller_core.specs.Controller.{fixed_with}
use Rattle.joint_history.specs.JointLaws.{fixed_of}
use Rattle.same_text.specs.Due.{IsSameDue}
use Rattle.same_text.specs.declared.answer.SameEnd.{SameEnd}
use Rattle.same_text.specs.declared.answer.SameEnd.TheVariants.{Differ, Same}
use Rattle.command_answers.proofs.sames.found_answer.Goals as goal

pub returns-in-Same : goal.returns-in-Same
returns-in-Same c =
    let plant = c.args.plant.now in
    let new = c.args.new.now in
    let watchdog = c.args.new_plant.now.watchdog in
    let old_fixed = fixed_of plant 1 c.args.old.now in
    let P : SameEnd → Type 0 =
    IsSameDue old_fixed (fixed_with new plant.scan_time watchdog 1) c.args.depth in
    let Q : ℕ → Type 0 = λ time.
    IsSameDue old_fixed (fixed_with new time watchdog 1) c.args.depth (Same c.in-Same.text) in
    let due = subst Q c.requires.alike.scan_times
    (subst P c.in-Same.is c.in_ok-text.ensures) in
    inl (record { pairs = due.0; same = due.1.0; status = refl; text = due.1.1 })

pub returns-in-Differ : goal.returns-in-Differ
returns-in-Differ c =
    let plant = c.args.plant.now in
    let new = c.args.new.now in
    let watchdog = c.args.new_plant.now.watchdog in
    let old_fixed = fixed_of plant 1 c.args.old.now in
    let P : SameEnd → Type 0 =
    IsSameDue old_fixed (fixed_with new plant.scan_time watchdog 1) c.args.depth in
    let Q : ℕ → Type 0 = λ time.
    IsSameDue old_fixed (fixed_with new time watchdog 1) c.args.depth (Differ c.in-Differ.text) in
    let due = subst Q c.requires.alike.scan_times
    (subst P c.in-Differ.is c.in_ok-text.ensures) in
    inr (record { runs = due.0; first = due.1.0; status = refl; text = due.1.1 })
