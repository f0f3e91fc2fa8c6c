use Rattle.plant_types.proofs.SizesLemmas.{get-cleared}
use Rattle.plant_types.proofs.map_ram.starts_cleared.Goals as goal

pub returns : goal.returns
returns c = get-cleared
