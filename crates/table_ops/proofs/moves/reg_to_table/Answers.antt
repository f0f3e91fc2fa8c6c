use Rattle.std.proofs.Common.{◌+◌, ◌∙◌, arith}
use Rattle.plant_types.proofs.RunLemmas.{ref_from-ref_from}
use Rattle.table_ops.proofs.TableLemmas.{HasRegisters-at}
use Rattle.table_ops.proofs.moves.reg_to_table.Goals as goal

pub move_word-requires-clause-target : goal.move_word-requires-clause-target
move_word-requires-clause-target g c =
    let place = c.place_at_start-place.result in
    HasRegisters-at (g.R.RefStore.contents c.args.ram.now) c.args.mid (c.args.length + 1)
    (1 + place) 1 c.register_behind.result c.requires.references.1.0
    (omega arith) (c.register_behind.ensures ∙ ref_from-ref_from c.args.mid 1 place)
