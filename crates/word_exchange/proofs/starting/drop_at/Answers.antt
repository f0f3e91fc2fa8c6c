use Rattle.std.proofs.Common.{List, sym, ap, ◌∙◌}
use Rattle.std.specs.Prelude.{◌==◌, option_map}
use Rattle.std.specs.List.{find}
use Rattle.plant_types.specs.declared.drops.IoDrop.{IoDrop}
use Rattle.peer_cop.proofs.PlantLemmas.{named_find}
use Rattle.word_exchange.proofs.StartLemmas.{drop-there, no-drop}
use Rattle.word_exchange.proofs.starting.drop_at.Goals as goal

pub unreachable-requires-in_default-drop_named : goal.unreachable-requires-in_default-drop_named
unreachable-requires-in_default-drop_named c =
    let plan = c.in-Some.plan.now in
    let number = c.args.number in
    no-drop c.args.plant.now c.args.node number plan c.requires (sym c.in-Some.ensures)
    (sym (named_find plan.drops number)
    ∙ ap (λ (l : List IoDrop). find (λ (d : IoDrop). d.number == number) l) (sym c.as_slice.ensures)
    ∙ sym c.drop_named.ensures ∙ ap (option_map _) c.in_default-drop_named.is)

pub returns : goal.returns
returns c =
    let plan = c.in-Some.plan.now in
    let number = c.args.number in
    drop-there c.args.plant.now c.args.node number plan c.in-Some-drop_named.drop.now
    (sym c.in-Some.ensures)
    (sym (named_find plan.drops number)
    ∙ ap (λ (l : List IoDrop). find (λ (d : IoDrop). d.number == number) l) (sym c.as_slice.ensures)
    ∙ sym c.in-Some-drop_named.ensures)
