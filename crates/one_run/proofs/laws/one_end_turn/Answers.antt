use Rattle.one_run.proofs.EndTurn.{end-turns}
use Rattle.one_run.proofs.laws.one_end_turn.Goals as goal

pub returns : goal.returns
returns c = end-turns
