use Rattle.std.proofs.Common.{arith}
use Rattle.table_ops.proofs.TableLemmas.{HasRegisters-at}
use Rattle.table_ops.proofs.moves.table_to_reg.Goals as goal

pub move_word-requires-clause-source : goal.move_word-requires-clause-source
move_word-requires-clause-source g c =
    HasRegisters-at (g.R.RefStore.contents c.args.ram.now) c.args.top c.args.length
    c.place_at_start-place.result 1 c.ref_after.result c.requires.references.0
    (omega arith) c.ref_after.ensures
