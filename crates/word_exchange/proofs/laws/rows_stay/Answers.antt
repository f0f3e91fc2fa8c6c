use Rattle.word_exchange.proofs.Staying.{rows-stay}
use Rattle.word_exchange.proofs.laws.rows_stay.Goals as goal

pub returns : goal.returns
returns c = rows-stay
