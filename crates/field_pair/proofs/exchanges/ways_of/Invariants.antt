use Rattle.std.proofs.Common.{◌≡◌, map, take}
use Rattle.field_pair.specs.declared.exchanges.Choice.{Choice}
use Rattle.field_pair.proofs.exchanges.ways_of.Given as goal

abbrev pub invariant-loop-choice : goal.invariant-loop-choice
invariant-loop-choice l =
    l.numbers.items ≡ map (λ (choice : Choice). choice.many) (take l.choice-index l.choices)
