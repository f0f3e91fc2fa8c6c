use Rattle.std.proofs.Common.{ℕ, ◌+◌, ◌<◌, map, slice_index}
use Rattle.joint_history.specs.declared.joint.BridgeLog.{BridgeLog}
use Rattle.journal_text.proofs.plain.bridges_rise.Given as goal

abbrev pub invariant-loop-at : goal.invariant-loop-at
invariant-loop-at l =
    (k : ℕ) → k + 1 < l.at
    → slice_index (map (λ (log : BridgeLog). log.left) l.logs) k
    < slice_index (map (λ (log : BridgeLog). log.left) l.logs) (k + 1)
