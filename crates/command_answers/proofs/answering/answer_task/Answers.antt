use Rattle.std.proofs.Common.{subst}
use Rattle.command_answers.specs.declared.judging.Judged.{Judged}
use Rattle.command_answers.specs.Due.{IsFound, judges}
use Rattle.command_answers.proofs.Runs.{found_legal}
use Rattle.command_answers.proofs.answering.answer_task.Goals as goal

pub task_text-requires-clause-joint : goal.task_text-requires-clause-joint
task_text-requires-clause-joint c =
    let reads = judges c.args.task in
    let plant = c.args.plant.now in
    let scans = c.args.scans in
    let behind = c.args.behind.now in
    let P : Judged → Type 0 = λ judged. IsFound reads plant scans behind judged in
    found_legal reads plant scans behind c.in-Whole.noted c.requires.scans
    (subst P c.in-Whole.is c.in_ok-noted.ensures)

pub task_text-requires-clause-notes : goal.task_text-requires-clause-notes
task_text-requires-clause-notes c =
    let reads = judges c.args.task in
    let plant = c.args.plant.now in
    let scans = c.args.scans in
    let behind = c.args.behind.now in
    let P : Judged → Type 0 = λ judged. IsFound reads plant scans behind judged in
    (subst P c.in-Whole.is c.in_ok-noted.ensures).1

pub journal_tells_all-requires-clause-joint : goal.journal_tells_all-requires-clause-joint
journal_tells_all-requires-clause-joint c =
    let reads = judges c.args.task in
    let plant = c.args.plant.now in
    let scans = c.args.scans in
    let behind = c.args.behind.now in
    let P : Judged → Type 0 = λ judged. IsFound reads plant scans behind judged in
    found_legal reads plant scans behind c.in-Whole.noted c.requires.scans
    (subst P c.in-Whole.is c.in_ok-noted.ensures)
