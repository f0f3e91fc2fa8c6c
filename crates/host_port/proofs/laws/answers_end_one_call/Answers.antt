use Rattle.host_port.proofs.Unanswered.{one_ends}
use Rattle.host_port.proofs.laws.answers_end_one_call.Goals as goal

pub returns : goal.returns
returns c = one_ends
