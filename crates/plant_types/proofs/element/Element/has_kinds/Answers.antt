use Rattle.plant_types.specs.Slots.{slots_of}
use Rattle.plant_types.specs.Elements.{name_of, operands_of, length_of}
use Rattle.plant_types.specs.Operands.{Named, accepts}
use Rattle.plant_types.proofs.SlotLemmas.{named_by-each}
use Rattle.plant_types.proofs.element.Element.has_kinds.Goals as goal

pub returns : goal.returns
returns c =
    let element = c.args.self in
    rw (
      c.all_fit_kind.ensures,
      c.length.ensures,
      c.slots_of.ensures.slots,
      c.name.ensures,
      c.as_slice.ensures,
      c.operands-operands.ensures,
    )
    (named_by-each (λ (named : Named). accepts named.kind named.at.kind) (length_of element)
    (slots_of (name_of element)) (operands_of element))
