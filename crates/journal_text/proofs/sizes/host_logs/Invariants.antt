use Rattle.std.proofs.Common.{take, All}
use Rattle.journal_text.specs.Sizes.{FitsHostLog}
use Rattle.journal_text.proofs.sizes.host_logs.Given as goal

abbrev pub invariant-loop-at : goal.invariant-loop-at
invariant-loop-at l = All FitsHostLog (take l.at l.logs)
