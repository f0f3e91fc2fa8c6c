use Rattle.std.proofs.Common.{inl, inr, refl, subst}
use Rattle.joint_history.specs.JointLaws.{fixed_of}
use Rattle.never_text.specs.Due.{IsNeverDue}
use Rattle.never_text.specs.declared.answer.NeverEnd.{NeverEnd}
use Rattle.command_answers.proofs.nevers.found_answer.Goals as goal

pub returns-in-Holds : goal.returns-in-Holds
returns-in-Holds c =
    let P : NeverEnd → Type 0 = IsNeverDue (fixed_of c.args.plant.now 1 c.args.plan.now)
    c.args.asked c.args.depth in
    let due = subst P c.in-Holds.is c.in_ok-text.ensures in
    inl (record { states = due.0; never = due.1.0; status = refl; text = due.1.1 })

pub returns-in-Fails : goal.returns-in-Fails
returns-in-Fails c =
    let P : NeverEnd → Type 0 = IsNeverDue (fixed_of c.args.plant.now 1 c.args.plan.now)
    c.args.asked c.args.depth in
    let due = subst P c.in-Fails.is c.in_ok-text.ensures in
    inr (record { told = due.0; first = due.1.0; status = refl; text = due.1.1 })
