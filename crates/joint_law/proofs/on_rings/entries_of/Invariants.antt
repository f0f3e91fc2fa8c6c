use Rattle.std.proofs.Common.{◌≡◌, [], take}
use Rattle.joint_history.specs.Nets.{entries_of_rings}
use Rattle.tied_lists.specs.Own.{own}
use Rattle.joint_law.proofs.on_rings.entries_of.Given as goal

abbrev pub invariant-loop-at : goal.invariant-loop-at
invariant-loop-at l = own l.node (entries_of_rings (take l.at l.on.rings.now)) ≡ []
