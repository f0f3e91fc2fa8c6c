use Rattle.std.proofs.Common.{◌≡◌, ◌+◌, drop}
use Rattle.traffic_cop.specs.Feeding.{place_named}
use Rattle.traffic_cop.proofs.feeding.place_named.Given as goal

abbrev pub invariant-loop-i : goal.invariant-loop-i
invariant-loop-i l = place_named l.drops l.number ≡ l.i + place_named (drop l.i l.drops) l.number
