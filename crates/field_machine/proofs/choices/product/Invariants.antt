use Rattle.std.proofs.Common.{◌≡◌, ◌*◌, drop}
use Rattle.field_machine.specs.Choices.{product}
use Rattle.field_machine.proofs.choices.product.Given as goal

abbrev pub invariant-loop-many : goal.invariant-loop-many
invariant-loop-many l = l.ways * product (drop l.many-index l.choices) ≡ product l.choices
