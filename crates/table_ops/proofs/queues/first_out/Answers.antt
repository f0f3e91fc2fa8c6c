use Rattle.std.proofs.Common.{◌+◌, arith}
use Rattle.table_ops.proofs.TableLemmas.{HasRegisters-at}
use Rattle.table_ops.proofs.queues.first_out.Goals as goal

pub move_word-requires-clause-source : goal.move_word-requires-clause-source
move_word-requires-clause-source g c =
    HasRegisters-at (g.R.RefStore.contents c.args.ram.now) c.args.top
    (c.args.length + 1) c.word-count.result 1 c.ref_after.result c.requires.references.0
    (omega arith) c.ref_after.ensures
