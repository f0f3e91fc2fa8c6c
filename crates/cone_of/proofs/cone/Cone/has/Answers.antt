use Rattle.std.proofs.Common.{ap, ◌∙◌}
use Rattle.std.specs.FinSet.{contains}
use Rattle.plant_types.specs.Discretes.{Refs}
use Rattle.cone_of.proofs.Keys.{found-keys}
use Rattle.cone_of.proofs.cone.Cone.has.Goals as goal

pub returns : goal.returns
returns c =
    c.contains.ensures
    ∙ (found-keys c.self.inside.refs.keys c.args.at
    ∙ ap (λ (set : Refs). contains set c.args.at) c.self.view_is)
