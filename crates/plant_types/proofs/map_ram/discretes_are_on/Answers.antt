use Rattle.plant_types.proofs.OnLemmas.{discretes-are_on}
use Rattle.plant_types.proofs.map_ram.discretes_are_on.Goals as goal

pub returns : goal.returns
returns c = discretes-are_on
