use Rattle.std.proofs.Common.{◌≡◌, length}
use Rattle.journal_reading.specs.Reading.{read_parts, read_small}
use Rattle.journal_reading.proofs.PartLoop.{with_front}
use Rattle.journal_reading.proofs.routes_read.read_addresses.Given as goal

abbrev pub invariant-loop-piece : goal.invariant-loop-piece
invariant-loop-piece l =
    with_front l.addresses (read_parts read_small 46 l.rest)
    ≡ read_parts read_small 46 l.text

abbrev pub decreases-loop-piece : goal.decreases-loop-piece
decreases-loop-piece l = length l.rest
