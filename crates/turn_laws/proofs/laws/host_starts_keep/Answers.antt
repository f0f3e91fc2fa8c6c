use Rattle.turn_laws.proofs.HostOthers.{host-starts}
use Rattle.turn_laws.proofs.laws.host_starts_keep.Goals as goal

pub returns : goal.returns
returns c = host-starts
