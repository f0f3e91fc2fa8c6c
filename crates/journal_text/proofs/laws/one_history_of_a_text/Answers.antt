use Rattle.journal_text.proofs.OneHistory.{one-history}
use Rattle.journal_text.proofs.laws.one_history_of_a_text.Goals as goal

pub returns : goal.returns
returns c = one-history
