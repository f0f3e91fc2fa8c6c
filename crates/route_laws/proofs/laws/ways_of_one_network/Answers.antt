use Rattle.route_laws.proofs.OneNetwork.{own-names-alone}
use Rattle.route_laws.proofs.laws.ways_of_one_network.Goals as goal

pub returns : goal.returns
returns c = own-names-alone
