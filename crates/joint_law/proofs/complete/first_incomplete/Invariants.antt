use Rattle.std.proofs.Common.{ℕ, ◌<◌}
use Rattle.joint_law.specs.Spots.{IsCompleteAt}
use Rattle.joint_law.proofs.complete.first_incomplete.Given as goal

abbrev pub invariant-loop-node : goal.invariant-loop-node
invariant-loop-node l =
    (n : ℕ) → n < l.node → IsCompleteAt l.plant l.scans l.joint n
