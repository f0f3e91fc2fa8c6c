use Rattle.std.proofs.Common.{◌≡◌, drop}
use Rattle.traffic_cop.specs.Drops.{drop_named}
use Rattle.traffic_cop.proofs.cop.Cop.drop_of.Given as goal

abbrev pub invariant-loop-drop : goal.invariant-loop-drop
invariant-loop-drop l =
    drop_named l.fn.self l.number ≡ drop_named (drop l.drop-index l.fn.self) l.number
