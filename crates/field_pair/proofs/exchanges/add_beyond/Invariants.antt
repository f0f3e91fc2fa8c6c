use Rattle.std.proofs.Common.{◌≡◌, ◌++◌, drop}
use Rattle.field_pair.specs.Exchanged.{beyond}
use Rattle.field_pair.proofs.exchanges.add_beyond.Given as goal

abbrev pub invariant-loop-drop : goal.invariant-loop-drop
invariant-loop-drop l =
    l.drops.items ++ beyond (drop l.drop-index l.read) l.left.items
    ≡ l.fn.drops.items ++ beyond l.read l.fn.others.items
