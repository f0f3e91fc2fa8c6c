use Rattle.std.proofs.Common.{arith}
use Rattle.journal_reading.proofs.Joins.{joined_read}
use Rattle.journal_reading.proofs.words_read.fill_words.Goals as goal

pub returns : goal.returns
returns c =
    joined_read c.args.bytes.now c.read_u16_into.new.dst (omega arith) c.read_u16_into.ensures
