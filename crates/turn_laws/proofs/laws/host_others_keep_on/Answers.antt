use Rattle.turn_laws.proofs.HostOthers.{host-others}
use Rattle.turn_laws.proofs.laws.host_others_keep_on.Goals as goal

pub returns : goal.returns
returns c = host-others
