use Rattle.std.proofs.Common.{◌≡◌, Option, Some, None, subst}
use Rattle.std.proofs.lemmas.Result.{IfOk-weaker}
use Rattle.field_pair.specs.Alike.{IsFirstDifference}
use Rattle.field_pair.specs.declared.alike.Difference.{Difference}
use Rattle.joint_history.specs.JointLaws.{fixed_of}
use Rattle.command_answers.specs.declared.answered.Answer.{Answer}
use Rattle.command_answers.specs.Due.{IsBeside, IsCompared, as_due, not_alike}
use Rattle.command_answers.proofs.sames.compared_answer.Goals as goal

pub returns-in-Some : goal.returns-in-Some
returns-in-Some c =
    let plant = c.args.plant.now in
    let new_plant = c.args.new_plant.now in
    let difference = c.in-Some.difference in
    let First : Option Difference → Type 0 =
    IsFirstDifference c.args.old.now c.args.new.now plant.scan_time new_plant.scan_time in
    let first = subst First c.in-Some.is c.in_ok-difference.ensures in
    let P : Answer → Type 0 = λ answer. as_due answer ≡ not_alike difference in
    let Q : Answer → Type 0 = λ answer. IsBeside (fixed_of plant 1 c.args.old.now)
    (fixed_of new_plant 1 c.args.new.now) c.args.depth (as_due answer) in
    IfOk-weaker c.not_alike.result P Q
    (λ answer due. record { difference = Some difference; first = first; due = due })
    c.not_alike.ensures

pub found_answer-requires-clause-alike : goal.found_answer-requires-clause-alike
found_answer-requires-clause-alike c =
    let First : Option Difference → Type 0 =
    IsFirstDifference c.args.old.now c.args.new.now c.args.plant.now.scan_time
    c.args.new_plant.now.scan_time in
    subst First c.in-None.is c.in_ok-difference.ensures

pub returns-in-None : goal.returns-in-None
returns-in-None c =
    let plant = c.args.plant.now in
    let new_plant = c.args.new_plant.now in
    let old_fixed = fixed_of plant 1 c.args.old.now in
    let new_fixed = fixed_of new_plant 1 c.args.new.now in
    let First : Option Difference → Type 0 =
    IsFirstDifference c.args.old.now c.args.new.now plant.scan_time new_plant.scan_time in
    let first = subst First c.in-None.is c.in_ok-difference.ensures in
    let P : Answer → Type 0 =
    λ answer. IsCompared None old_fixed new_fixed c.args.depth (as_due answer) in
    let Q : Answer → Type 0 =
    λ answer. IsBeside old_fixed new_fixed c.args.depth (as_due answer) in
    IfOk-weaker c.found_answer.result P Q
    (λ answer due. record { difference = None; first = first; due = due }) c.found_answer.ensures
