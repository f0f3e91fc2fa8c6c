use Rattle.word_exchange.proofs.Growing.{go-on}
use Rattle.word_exchange.proofs.laws.repetitions_go_on.Goals as goal

pub returns : goal.returns
returns c = go-on
