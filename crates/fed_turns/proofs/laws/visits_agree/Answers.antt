use Rattle.fed_turns.proofs.AgreedTurns.{visits}
use Rattle.fed_turns.proofs.laws.visits_agree.Goals as goal

pub returns : goal.returns
returns c = visits
