use Rattle.std.proofs.Common.{◌∙◌, sym, subst}
use Rattle.plant_types.specs.Sizes.{Sizes, cleared}
use Rattle.plant_types.specs.Store.{Keeps}
use Rattle.plant_tests.proofs.values.stores.Goals as goal

pub returns : goal.returns
returns c =
    let sizes : Sizes = record { coils = 16; inputs = 16; input_registers = 0; registers = 3 } in
    let law = c.discretes_follow.ensures in
    let keeps = law.held sizes (cleared sizes) (cleared sizes) (λ at h. h) in
    subst (Keeps c.in_ok-past.past) (sym c.in_ok-ram.ensures)
    (subst (λ past. Keeps past (cleared sizes)) (law.fresh sizes ∙ sym c.in_ok-past.ensures) keeps)
