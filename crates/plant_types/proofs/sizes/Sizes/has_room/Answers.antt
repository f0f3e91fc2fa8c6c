use Rattle.plant_types.specs.Sizes.{has_run}
use Rattle.plant_types.specs.Slots.{slots_of}
use Rattle.plant_types.specs.Elements.{name_of, operands_of, length_of}
use Rattle.plant_types.specs.Operands.{Named}
use Rattle.plant_types.proofs.SlotLemmas.{named_by-each}
use Rattle.plant_types.proofs.sizes.Sizes.has_room.Goals as goal

pub returns : goal.returns
returns c =
    let element = c.args.element in
    rw (
      c.has_slots.ensures,
      c.length.ensures,
      c.slots_of.ensures.slots,
      c.name.ensures,
      c.as_slice.ensures,
      c.operands-operands.ensures,
    )
    (named_by-each (λ (named : Named). has_run c.args.self named.at named.count) (length_of element)
    (slots_of (name_of element)) (operands_of element))
