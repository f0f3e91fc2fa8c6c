use Rattle.std.proofs.Common.{◌≡◌, take}
use Rattle.standby_pair.proofs.scanning.copies.Given as goal

abbrev pub invariant-loop-entry : goal.invariant-loop-entry
invariant-loop-entry l = l.list ≡ take l.entry-index l.entries
