use Rattle.journal_text.proofs.OneHistory.{one-front}
use Rattle.journal_text.proofs.laws.one_journal_in_front.Goals as goal

pub returns : goal.returns
returns c = one-front
