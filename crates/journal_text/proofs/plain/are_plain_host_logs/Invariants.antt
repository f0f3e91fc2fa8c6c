use Rattle.std.proofs.Common.{take, All}
use Rattle.joint_history.specs.declared.joint.HostLog.{HostLog}
use Rattle.journal_lines.specs.Plain.{IsPlainHostEntry}
use Rattle.journal_text.proofs.plain.are_plain_host_logs.Given as goal

abbrev pub invariant-loop-at : goal.invariant-loop-at
invariant-loop-at l = All (λ (log : HostLog). All IsPlainHostEntry log.entries) (take l.at l.logs)
