use Rattle.end_laws.proofs.Turn.{end-turns}
use Rattle.end_laws.proofs.laws.end_turns_keep_on.Goals as goal

pub returns : goal.returns
returns c = end-turns
