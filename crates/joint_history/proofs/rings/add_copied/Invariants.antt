use Rattle.std.proofs.Common.{◌≡◌, ◌++◌, take}
use Rattle.joint_history.proofs.rings.add_copied.Given as goal

abbrev pub invariant-loop-entry : goal.invariant-loop-entry
invariant-loop-entry l = l.noted ≡ l.initial.noted ++ take l.entry-index l.entries
