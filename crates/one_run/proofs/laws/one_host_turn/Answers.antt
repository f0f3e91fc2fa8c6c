use Rattle.one_run.proofs.Whole.{hosts}
use Rattle.one_run.proofs.laws.one_host_turn.Goals as goal

pub returns : goal.returns
returns c = hosts
