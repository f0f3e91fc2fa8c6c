use Rattle.plant_types.proofs.PassingLemmas.{checks-exact}
use Rattle.plant_types.proofs.checks.checks_are_exact.Goals as goal

pub returns : goal.returns
returns c = checks-exact
