use Rattle.std.proofs.Common.{◌≡◌, map, take}
use Rattle.field_pair.specs.Choices.{choice_for}
use Rattle.field_pair.proofs.exchanges.choices_of_both.Given as goal

abbrev pub invariant-loop-drop : goal.invariant-loop-drop
invariant-loop-drop l =
    l.choices.items ≡ map (choice_for l.old.drops) (take l.drop-index l.drop-items)
