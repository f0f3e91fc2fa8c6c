use Rattle.route_laws.proofs.Success.{success-on-way}
use Rattle.route_laws.proofs.laws.success_is_one_effect_on_way.Goals as goal

pub returns : goal.returns
returns c = success-on-way c.ways_have_one_effect.ensures
