use Rattle.std.proofs.Common.{take, All}
use Rattle.journal_text.specs.Sizes.{FitsLog}
use Rattle.journal_text.proofs.sizes.logs.Given as goal

abbrev pub invariant-loop-at : goal.invariant-loop-at
invariant-loop-at l = All FitsLog (take l.at l.logs)
