use Rattle.turn_laws.proofs.HostOthers.{host-complete}
use Rattle.turn_laws.proofs.laws.hosts_complete.Goals as goal

pub returns : goal.returns
returns c = host-complete
