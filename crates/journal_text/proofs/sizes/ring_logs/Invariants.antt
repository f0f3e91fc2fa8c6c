use Rattle.std.proofs.Common.{take, All}
use Rattle.journal_text.specs.Sizes.{FitsRingLog}
use Rattle.journal_text.proofs.sizes.ring_logs.Given as goal

abbrev pub invariant-loop-at : goal.invariant-loop-at
invariant-loop-at l = All FitsRingLog (take l.at l.logs)
