use Rattle.command_answers.proofs.Written.{written-legal}
use Rattle.command_answers.proofs.laws.written_is_legal.Goals as goal

pub returns : goal.returns
returns c = written-legal c.one_due.ensures c.one_journal_in_front.ensures
