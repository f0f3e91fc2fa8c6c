use Rattle.controller_core.proofs.NextEntry.{stays}
use Rattle.controller_core.proofs.laws.ended_controllers_stay.Goals as goal

pub returns : goal.returns
returns c = stays
