use Rattle.ring_laws.proofs.Law.{given-up-word}
use Rattle.ring_laws.proofs.laws.given_up_word.Goals as goal

pub returns : goal.returns
returns c = given-up-word
