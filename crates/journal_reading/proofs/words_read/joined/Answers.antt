use Rattle.std.proofs.Common.{arith}
use Rattle.journal_reading.proofs.Joins.{joined_odd}
use Rattle.journal_reading.proofs.words_read.joined.Goals as goal

pub returns-then-bytes-count : goal.returns-then-bytes-count
returns-then-bytes-count c = joined_odd c.args.bytes.now (omega arith)
