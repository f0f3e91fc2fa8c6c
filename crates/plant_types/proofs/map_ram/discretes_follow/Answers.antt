use Rattle.plant_types.proofs.PartLemmas.{discretes-follow}
use Rattle.plant_types.proofs.map_ram.discretes_follow.Goals as goal

pub returns : goal.returns
returns c = discretes-follow
