use Rattle.std.proofs.Common.{List, Option, ap, ◌∙◌}
use Rattle.std.specs.Prelude.{◌==◌}
use Rattle.std.specs.List.{find}
use Rattle.std.specs.Option.{option_and_then}
use Rattle.plant_types.specs.declared.drops.IoDrop.{IoDrop}
use Rattle.plant_types.specs.declared.plan.ControllerPlan.{ControllerPlan}
use Rattle.traffic_cop.specs.Drops.{drop_named}
use Rattle.peer_cop.proofs.PlantLemmas.{named_find}
use Rattle.peer_cop.proofs.fitting.drop_of.Goals as goal

pub returns-in-Some : goal.returns-in-Some
returns-in-Some c =
    let number = c.args.number in
    c.drop_named.ensures
    ∙ ap (λ (drops : List IoDrop). find (λ (d : IoDrop). d.number == number) drops)
    c.as_slice.ensures
    ∙ named_find c.in-Some.plan.now.drops number
    ∙ ap (λ (o : Option ControllerPlan).
    option_and_then (λ (plan : ControllerPlan). drop_named plan.drops number) o) c.in-Some.ensures
