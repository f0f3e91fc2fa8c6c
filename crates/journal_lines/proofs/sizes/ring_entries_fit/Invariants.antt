use Rattle.std.proofs.Common.{take, All}
use Rattle.journal_lines.specs.Sizes.{FitsRingEntry}
use Rattle.journal_lines.proofs.sizes.ring_entries_fit.Given as goal

abbrev pub invariant-loop-at : goal.invariant-loop-at
invariant-loop-at l = All FitsRingEntry (take l.at l.entries)
