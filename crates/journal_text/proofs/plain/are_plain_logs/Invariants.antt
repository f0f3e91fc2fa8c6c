use Rattle.std.proofs.Common.{take, All}
use Rattle.joint_history.specs.declared.joint.ControllerLog.{ControllerLog}
use Rattle.journal_lines.specs.Plain.{IsPlainEntry}
use Rattle.journal_text.proofs.plain.are_plain_logs.Given as goal

abbrev pub invariant-loop-at : goal.invariant-loop-at
invariant-loop-at l = All (λ (log : ControllerLog). All IsPlainEntry log.entries) (take l.at l.logs)
