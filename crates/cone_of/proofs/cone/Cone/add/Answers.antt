use Rattle.std.proofs.Common.{ap, ◌∙◌}
use Rattle.std.specs.FinSet.{insert}
use Rattle.plant_types.specs.Discretes.{Refs}
use Rattle.cone_of.proofs.Keys.{one-added}
use Rattle.cone_of.proofs.cone.Cone.add.Goals as goal

pub returns : goal.returns
returns c =
    one-added c.self.inside.refs.keys c.insert.new.self.keys c.args.at
    c.in_ok-insert.ensures.updates.0
    ∙ ap (λ (set : Refs). insert set c.args.at) c.self.view_is
