use Rattle.std.proofs.Common.{◌≡◌, ◌+◌, ◌∙◌, true, sym, ap, arith}
use Rattle.std.specs.FinMap.{contains_key}
use Rattle.plant_types.specs.Reference.{ref_from}
use Rattle.plant_types.proofs.RunLemmas.{ref_from-zero, ref_from-ref_from}
use Rattle.table_ops.proofs.TableLemmas.{HasRegisters-at}
use Rattle.table_ops.proofs.queues.first_in.Goals as goal

pub move_words-requires-clause-source : goal.move_words-requires-clause-source
move_words-requires-clause-source g c =
    HasRegisters-at (g.R.RefStore.contents c.args.ram.now) c.args.mid
    (c.args.length + 1) 1 c.word-count.result
    c.ref_after-queue.result c.requires.references.1.0
    (omega arith) c.ref_after-queue.ensures

pub move_words-requires-clause-target : goal.move_words-requires-clause-target
move_words-requires-clause-target g c =
    HasRegisters-at (g.R.RefStore.contents c.args.ram.now) c.args.mid
    (c.args.length + 1) 2 c.word-count.result c.ref_after.result c.requires.references.1.0
    (omega arith)
    (c.ref_after.ensures ∙ ap (λ r. ref_from r 1) c.ref_after-queue.ensures
    ∙ ref_from-ref_from c.args.mid 1 1)

pub set_word-requires-2-clause-held : goal.set_word-requires-2-clause-held
set_word-requires-2-clause-held g c =
    let m = g.R.RefStore.contents c.args.ram.now in
    let first : contains_key m c.args.mid ≡ true = ap (contains_key m)
    (sym (ref_from-zero c.args.mid)) ∙ c.requires.references.1.0.held 0 (omega arith) in
    let moved = g.R.RefStore.contents c.move_words.new.ram in
    c.set_word.ensures.keeps c.args.mid (c.move_words.ensures.keeps c.args.mid first)
