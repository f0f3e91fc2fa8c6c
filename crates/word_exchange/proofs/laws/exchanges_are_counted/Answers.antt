use Rattle.word_exchange.proofs.Counted.{counted}
use Rattle.word_exchange.proofs.laws.exchanges_are_counted.Goals as goal

pub returns : goal.returns
returns c = counted
