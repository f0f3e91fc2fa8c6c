use Rattle.end_laws.proofs.Spent.{end-spends}
use Rattle.end_laws.proofs.laws.end_turns_spend_nothing.Goals as goal

pub returns : goal.returns
returns c = end-spends
