use Rattle.std.proofs.Common.{◌≡◌, drop}
use Rattle.traffic_cop.specs.Drops.{drop_named}
use Rattle.field_pair.proofs.alike.named.Given as goal

abbrev pub invariant-loop-drop : goal.invariant-loop-drop
invariant-loop-drop l =
    drop_named l.fn.drops l.number ≡ drop_named (drop l.drop-index l.drops) l.number
