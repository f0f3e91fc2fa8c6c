use Rattle.plant_types.proofs.ChecksLemmas.{checked-find_all}
use Rattle.plant_types.proofs.checks.checked_plans_find_all.Goals as goal

pub returns : goal.returns
returns c = checked-find_all
