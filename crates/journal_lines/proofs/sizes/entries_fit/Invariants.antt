use Rattle.std.proofs.Common.{take, All}
use Rattle.journal_lines.specs.Sizes.{FitsEntry}
use Rattle.journal_lines.proofs.sizes.entries_fit.Given as goal

abbrev pub invariant-loop-at : goal.invariant-loop-at
invariant-loop-at l = All FitsEntry (take l.at l.entries)
