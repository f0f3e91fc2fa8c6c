use Rattle.std.proofs.Common.{◌≡◌, Global, map, take, Vec}
use Rattle.field_machine.specs.declared.exchanges.Exchange.{Exchange}
use Rattle.field_pair.specs.Choices.{brought_by}
use Rattle.field_pair.proofs.ends.brought_in.Given as goal

abbrev pub invariant-loop-by : goal.invariant-loop-by
invariant-loop-by l =
    map (λ (scan : Vec Exchange Global). scan.items) l.brought.items
    ≡ map (brought_by l.choices) (take l.by-index l.path)
