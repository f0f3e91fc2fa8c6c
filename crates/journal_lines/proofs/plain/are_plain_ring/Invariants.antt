use Rattle.std.proofs.Common.{take, All}
use Rattle.journal_lines.specs.Plain.{IsPlainRing}
use Rattle.journal_lines.proofs.plain.are_plain_ring.Given as goal

abbrev pub invariant-loop-at : goal.invariant-loop-at
invariant-loop-at l = All IsPlainRing (take l.at l.entries)
