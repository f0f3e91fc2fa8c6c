use Rattle.std.proofs.Common.{◌∙◌, ap, sym}
use Rattle.std.specs.FinMap.{insert}
use Rattle.table_ops.proofs.TableLemmas.{moved-one}
use Rattle.table_ops.proofs.moves.move_word.Goals as goal

pub returns-clause-stored : goal.returns-clause-stored
returns-clause-stored g c =
    let m = g.R.RefStore.contents c.args.ram.now in
    c.set_word.ensures.stored ∙ ap (insert m c.args.target) c.word-word.ensures
    ∙ sym (moved-one m c.args.source c.args.target)
