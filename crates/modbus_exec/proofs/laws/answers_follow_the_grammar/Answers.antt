use Rattle.modbus_exec.proofs.GrammarAnswers.{unlisted_answer, misformed_answer, answer_by_function}
use Rattle.modbus_exec.proofs.laws.answers_follow_the_grammar.Goals as goal

pub returns : goal.returns
returns c = record {
  unlisted = unlisted_answer;
  misformed = misformed_answer;
  spelled = answer_by_function;
}
