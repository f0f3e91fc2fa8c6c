use Rattle.word_exchange.proofs.Exchanging.{exchanges}
use Rattle.word_exchange.proofs.laws.repetitions_exchange.Goals as goal

pub returns : goal.returns
returns c = exchanges
