use Rattle.std.proofs.Common.{◌≡◌, length}
use Rattle.journal_reading.specs.Reading.{read_parts}
use Rattle.journal_reading.specs.ReadLines.{read_call}
use Rattle.journal_reading.proofs.PartLoop.{with_front}
use Rattle.journal_reading.proofs.calls_read.read_calls.Given as goal

abbrev pub invariant-loop-piece : goal.invariant-loop-piece
invariant-loop-piece l =
    with_front l.calls (read_parts read_call 32 l.rest) ≡ read_parts read_call 32 l.text

abbrev pub decreases-loop-piece : goal.decreases-loop-piece
decreases-loop-piece l = length l.rest
