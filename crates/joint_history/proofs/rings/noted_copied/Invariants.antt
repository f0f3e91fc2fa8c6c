use Rattle.std.proofs.Common.{◌≡◌, take}
use Rattle.joint_history.specs.Nets.{entries_of_rings}
use Rattle.joint_history.proofs.rings.noted_copied.Given as goal

abbrev pub invariant-loop-ring : goal.invariant-loop-ring
invariant-loop-ring l = l.noted ≡ entries_of_rings (take l.ring-index l.rings)
