use Rattle.host_port.proofs.OpenRequests.{new_names}
use Rattle.host_port.proofs.laws.asks_have_new_names.Goals as goal

pub returns : goal.returns
returns c = new_names
