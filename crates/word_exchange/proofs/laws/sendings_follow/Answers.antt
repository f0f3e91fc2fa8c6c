use Rattle.word_exchange.proofs.WordLemmas.{follow}
use Rattle.word_exchange.proofs.laws.sendings_follow.Goals as goal

pub returns : goal.returns
returns c = follow
