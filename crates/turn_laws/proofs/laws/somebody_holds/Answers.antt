use Rattle.turn_laws.proofs.Holders.{somebody-holds}
use Rattle.turn_laws.proofs.laws.somebody_holds.Goals as goal

pub returns : goal.returns
returns c = somebody-holds c.holder_is_member.ensures
