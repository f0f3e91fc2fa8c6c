use Rattle.host_port.proofs.OpenRequests.{open_requests}
use Rattle.host_port.proofs.laws.open_requests_follow.Goals as goal

pub returns : goal.returns
returns c = open_requests
