use Rattle.turn_laws.proofs.HostTurns.{host-turns-keep}
use Rattle.turn_laws.proofs.laws.host_turns_keep_on.Goals as goal

pub returns : goal.returns
returns c = host-turns-keep
