use Rattle.word_exchange.proofs.Following.{readers-follow}
use Rattle.word_exchange.proofs.laws.readers_follow.Goals as goal

pub returns : goal.returns
returns c = readers-follow
