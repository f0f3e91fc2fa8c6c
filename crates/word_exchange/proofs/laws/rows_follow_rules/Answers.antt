use Rattle.word_exchange.proofs.Ruled.{rows-follow-rules}
use Rattle.word_exchange.proofs.laws.rows_follow_rules.Goals as goal

pub returns : goal.returns
returns c = rows-follow-rules
