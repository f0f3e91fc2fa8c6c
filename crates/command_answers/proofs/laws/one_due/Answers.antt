use Rattle.command_answers.proofs.OneDue.{due-one}
use Rattle.command_answers.proofs.laws.one_due.Goals as goal

pub returns : goal.returns
returns c = due-one (record {
  runs = c.one_serial_run.ensures;
  wired = c.tested_plants_can_be_wired.ensures;
  exchanges = c.one_exchange.ensures;
  same = c.one_answer_same.ensures;
  texts = c.one_history_of_a_text.ensures;
  verdicts = c.verdicts_agree.ensures;
})
