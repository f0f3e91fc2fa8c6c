use Rattle.fed_turns.proofs.AgreedTurns.{holds}
use Rattle.fed_turns.proofs.laws.holds_agree.Goals as goal

pub returns : goal.returns
returns c = holds
