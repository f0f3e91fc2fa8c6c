use Rattle.std.proofs.Common.{take, All}
use Rattle.journal_lines.specs.Sizes.{FitsCall}
use Rattle.journal_lines.proofs.sizes.calls.Given as goal

abbrev pub invariant-loop-at : goal.invariant-loop-at
invariant-loop-at l = All FitsCall (take l.at l.calls)
