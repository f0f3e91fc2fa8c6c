use Rattle.std.proofs.Common.{Option, Some, subst}
use Rattle.std.specs.Prelude.{IfOk, IsTrue, ◌↔◌}
use Rattle.plant_types.specs.declared.drops.IoDrop.{IoDrop}
use Rattle.traffic_cop.specs.Drops.{drop_named}
use Rattle.side_runs.specs.Beside.{AreAlikeDrops}
use Rattle.field_pair.proofs.alike.are_alike.Goals as goal

pub returns-in-Some-Some : goal.returns-in-Some-Some
returns-in-Some-Some c =
    let number = c.args.number in
    subst (λ (o : Option IoDrop). IfOk c.take_the_same.result
    (λ alike. IsTrue alike ↔ AreAlikeDrops o (drop_named c.args.new.now number)))
    c.in-Some-Some.ensures
    (subst (λ (o : Option IoDrop). IfOk c.take_the_same.result
    (λ alike. IsTrue alike ↔ AreAlikeDrops (Some c.in-Some-Some.one.now) o))
    c.in-Some-Some.ensures' c.take_the_same.ensures)
