use Rattle.controller_core.proofs.Powered.{kept_power}
use Rattle.controller_core.proofs.laws.kept_power_is_on.Goals as goal

pub returns : goal.returns
returns c = kept_power c.kept_power_stays.ensures
