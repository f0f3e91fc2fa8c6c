use Rattle.std.proofs.Common.{◌<◌, length, get_or, take, refl, sym, ap, subst, ◌∙◌, arith}
use Rattle.std.specs.FinMap.{insert}
use Rattle.std.proofs.lemmas.List.{take_more, length-take-le}
use Rattle.plant_types.specs.Reference.{ref_from}
use Rattle.plant_types.specs.Store.{Keeps, with_words}
use Rattle.plant_types.proofs.RunLemmas.{with_words-push, Keeps-with_words}
use Rattle.plant_types.proofs.runs.store_words.Goals as goal

pub loop-i-init : goal.loop-i-init
unfolding with_words
loop-i-init g c = refl

pub set_word-requires-clause-held : goal.set_word-requires-clause-held
set_word-requires-clause-held g c =
    let m = g.R.RefStore.contents c.args.ram.now in
    let within : c.loop-i.i < length c.args.words.now = omega arith in
    rw (c.ref_after.ensures, c.loop-i.invariant)
    (Keeps-with_words m c.args.at (take c.loop-i.i c.args.words.now) (ref_from c.args.at c.loop-i.i)
    (c.requires.held c.loop-i.i within))

pub loop-i-preserved : goal.loop-i-preserved
loop-i-preserved g c =
    let m = g.R.RefStore.contents c.args.ram.now in
    let ws = c.args.words.now in
    let within : c.loop-i.i < length ws = omega arith in
    let front = take c.loop-i.i ws in
    let size = length-take-le c.loop-i.i ws (omega arith) in
    c.set_word.ensures.stored
    ∙ ap (λ r. insert (g.R.RefStore.contents c.loop-i.ram) r (get_or ws c.loop-i.i 0))
    (c.ref_after.ensures ∙ ap (ref_from c.args.at) (sym size))
    ∙ ap (λ n. insert n (ref_from c.args.at (length front)) (get_or ws c.loop-i.i 0))
    c.loop-i.invariant
    ∙ sym (with_words-push m c.args.at front (get_or ws c.loop-i.i 0))
    ∙ ap (with_words m c.args.at) (sym (take_more ws c.loop-i.i 0 within))

pub returns-clause-keeps : goal.returns-clause-keeps
returns-clause-keeps g c =
    let m = g.R.RefStore.contents c.args.ram.now in
    subst (Keeps m) (sym c.loop-i.invariant)
    (Keeps-with_words m c.args.at (take c.loop-i.i c.args.words.now))
