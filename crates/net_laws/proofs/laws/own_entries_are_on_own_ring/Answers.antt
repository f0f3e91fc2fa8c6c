use Rattle.net_laws.proofs.Rings.{own-ring}
use Rattle.net_laws.proofs.laws.own_entries_are_on_own_ring.Goals as goal

pub returns : goal.returns
returns c = own-ring
