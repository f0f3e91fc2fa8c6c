use Rattle.route_laws.proofs.Once.{taken-on-once}
use Rattle.route_laws.proofs.laws.requests_are_taken_on_once.Goals as goal

pub returns : goal.returns
returns c = taken-on-once
