use Rattle.std.proofs.Common.{◌≡◌, true, drop}
use Rattle.joint_law.specs.AllComplete.{powered_from}
use Rattle.joint_law.proofs.complete.is_powered.Given as goal

abbrev pub invariant-loop-entry : goal.invariant-loop-entry
invariant-loop-entry l =
    powered_from l.powered (drop l.entry-index l.entries) ≡ powered_from true l.entries
