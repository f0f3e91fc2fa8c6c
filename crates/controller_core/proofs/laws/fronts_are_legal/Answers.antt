use Rattle.controller_core.proofs.NextEntry.{front_legal}
use Rattle.controller_core.proofs.laws.fronts_are_legal.Goals as goal

pub returns : goal.returns
returns c = front_legal
