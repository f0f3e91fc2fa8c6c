use Rattle.host_port.proofs.Unanswered.{asks_keep}
use Rattle.host_port.proofs.laws.asks_keep_calls.Goals as goal

pub returns : goal.returns
returns c = asks_keep
