use Rattle.std.proofs.Common.{◌≡◌, take}
use Rattle.traffic_cop.proofs.cop.Cop.new.Given as goal

abbrev pub invariant-loop-drop : goal.invariant-loop-drop
invariant-loop-drop l = l.kept ≡ take l.drop-index l.drops
