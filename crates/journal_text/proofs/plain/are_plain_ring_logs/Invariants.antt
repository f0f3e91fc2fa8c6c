use Rattle.std.proofs.Common.{take, All}
use Rattle.joint_history.specs.declared.joint.RingLog.{RingLog}
use Rattle.journal_lines.specs.Plain.{IsPlainRing}
use Rattle.journal_text.proofs.plain.are_plain_ring_logs.Given as goal

abbrev pub invariant-loop-at : goal.invariant-loop-at
invariant-loop-at l = All (λ (log : RingLog). All IsPlainRing log.entries) (take l.at l.logs)
