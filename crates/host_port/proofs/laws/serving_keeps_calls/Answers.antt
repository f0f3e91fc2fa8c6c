use Rattle.host_port.proofs.Unanswered.{serving_keeps}
use Rattle.host_port.proofs.laws.serving_keeps_calls.Goals as goal

pub returns : goal.returns
returns c = serving_keeps
