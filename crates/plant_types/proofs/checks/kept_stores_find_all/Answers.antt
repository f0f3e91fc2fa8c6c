use Rattle.plant_types.proofs.KeptLemmas.{kept-find_all}
use Rattle.plant_types.proofs.checks.kept_stores_find_all.Goals as goal

pub returns : goal.returns
returns c = kept-find_all
