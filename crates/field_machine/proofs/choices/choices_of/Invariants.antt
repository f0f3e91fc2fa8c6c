use Rattle.std.proofs.Common.{◌≡◌, map, take}
use Rattle.field_machine.specs.Choices.{choices_for}
use Rattle.field_machine.proofs.choices.choices_of.Given as goal

abbrev pub invariant-loop-row : goal.invariant-loop-row
invariant-loop-row l =
    l.choices.items ≡ map (λ row. choices_for l.plan.drops row.input) (take l.row-index l.plan.orders)
