use Rattle.ring_laws.proofs.Law.{only-its-target}
use Rattle.ring_laws.proofs.laws.only_its_target.Goals as goal

pub returns : goal.returns
returns c = only-its-target
