use Rattle.ring_laws.proofs.Law.{posted-once}
use Rattle.ring_laws.proofs.laws.posted_once.Goals as goal

pub returns : goal.returns
returns c = posted-once
