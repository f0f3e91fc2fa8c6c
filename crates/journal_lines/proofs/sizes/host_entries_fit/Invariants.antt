use Rattle.std.proofs.Common.{take, All}
use Rattle.journal_lines.specs.Sizes.{FitsHostEntry}
use Rattle.journal_lines.proofs.sizes.host_entries_fit.Given as goal

abbrev pub invariant-loop-at : goal.invariant-loop-at
invariant-loop-at l = All FitsHostEntry (take l.at l.entries)
