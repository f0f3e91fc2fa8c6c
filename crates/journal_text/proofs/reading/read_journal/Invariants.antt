use Rattle.std.proofs.Common.{◌+◌, ◌≤◌, length}
use Rattle.journal_text.proofs.ReadLoop.{SoFar}
use Rattle.journal_text.proofs.reading.read_journal.Given as goal

abbrev pub invariant-loop-line : goal.invariant-loop-line
invariant-loop-line l = record {
  so_far : SoFar l.bytes l.draft l.rest l.number;
  room : l.number + length l.rest ≤ length l.bytes + 1;
}

abbrev pub decreases-loop-line : goal.decreases-loop-line
decreases-loop-line l = length l.rest
