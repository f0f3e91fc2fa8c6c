use Rattle.std.proofs.Common.{take, All}
use Rattle.journal_lines.specs.Sizes.{FitsBridgeEntry}
use Rattle.journal_lines.proofs.sizes.bridge_entries_fit.Given as goal

abbrev pub invariant-loop-at : goal.invariant-loop-at
invariant-loop-at l = All FitsBridgeEntry (take l.at l.entries)
