use Rattle.std.proofs.Common.{take, All}
use Rattle.joint_history.specs.declared.joint.BridgeLog.{BridgeLog}
use Rattle.journal_lines.specs.Plain.{IsPlainBridgeEntry}
use Rattle.journal_text.proofs.plain.are_plain_bridge_logs.Given as goal

abbrev pub invariant-loop-at : goal.invariant-loop-at
invariant-loop-at l =
    All (λ (log : BridgeLog). All IsPlainBridgeEntry log.entries) (take l.at l.logs)
