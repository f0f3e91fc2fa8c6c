use Rattle.hot_standby.proofs.Packets.{made-of-packets}
use Rattle.hot_standby.proofs.laws.packets_make_the_history.Goals as goal

pub returns : goal.returns
returns c = made-of-packets
