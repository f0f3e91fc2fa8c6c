use Rattle.ring_laws.proofs.Law.{taken-once}
use Rattle.ring_laws.proofs.laws.taken_once.Goals as goal

pub returns : goal.returns
returns c = taken-once
