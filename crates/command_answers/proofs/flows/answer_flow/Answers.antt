use Rattle.std.proofs.Common.{subst}
use Rattle.command_answers.specs.declared.judging.Judged.{Judged}
use Rattle.command_answers.specs.Due.{IsFound, has_journal}
use Rattle.command_answers.proofs.Runs.{found_legal}
use Rattle.command_answers.proofs.flows.answer_flow.Goals as goal

pub flow_text-requires-clause-joint : goal.flow_text-requires-clause-joint
flow_text-requires-clause-joint c =
    let behind = c.args.behind.now in
    let P : Judged → Type 0 = λ judged.
    IsFound (has_journal behind) c.args.plant.now c.args.last behind judged in
    found_legal (has_journal behind) c.args.plant.now c.args.last behind c.in-Whole.noted
    c.requires.command.1 (subst P c.in-Whole.is c.in_ok-noted.ensures)

pub journal_tells_all-requires-clause-joint : goal.journal_tells_all-requires-clause-joint
journal_tells_all-requires-clause-joint c =
    let behind = c.args.behind.now in
    let P : Judged → Type 0 = λ judged.
    IsFound (has_journal behind) c.args.plant.now c.args.last behind judged in
    found_legal (has_journal behind) c.args.plant.now c.args.last behind c.in-Whole.noted
    c.requires.command.1 (subst P c.in-Whole.is c.in_ok-noted.ensures)
