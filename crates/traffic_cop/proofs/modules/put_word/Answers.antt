use Rattle.std.proofs.Common.{◌-◌, take, ◌==◌, cond, refl, sym, ap, subst, ◌∙◌, arith}
use Rattle.std.specs.Int.{bit_at}
use Rattle.std.specs.FinMap.{insert}
use Rattle.std.proofs.lemmas.List.{take_all}
use Rattle.plant_types.specs.Reference.{ref_from}
use Rattle.plant_types.specs.Store.{Keeps, with_words}
use Rattle.plant_types.specs.Discretes.{bit_words, word_bits}
use Rattle.plant_types.proofs.DiscretesLemmas.{length-bits_high_first, length-bit_words}
use Rattle.plant_types.proofs.RunLemmas.{Keeps-with_words}
use Rattle.traffic_cop.proofs.ModuleLemmas.{stored_more}
use Rattle.traffic_cop.proofs.modules.put_word.Goals as goal

pub loop-place-init : goal.loop-place-init
unfolding with_words
loop-place-init g c = refl

pub set_bit-requires-clause-held : goal.set_bit-requires-clause-held
set_bit-requires-clause-held g c =
    let m = g.R.RefStore.contents c.args.ram.now in
    let front = take c.loop-place.place (bit_words (word_bits c.args.word)) in
    rw (c.ref_after.ensures, c.loop-place.invariant)
    (Keeps-with_words m c.args.at front (ref_from c.args.at c.loop-place.place)
    (c.requires.held c.loop-place.place c.loop-place-test.true))

pub loop-place-preserved : goal.loop-place-preserved
loop-place-preserved g c =
    let m = g.R.RefStore.contents c.args.ram.now in
    let place = c.loop-place.place in
    let on = bit_at c.args.word (15 - place) == 1 in
    c.set_bit.ensures.stored
    ∙ ap (λ r. insert (g.R.RefStore.contents c.loop-place.ram) r (cond c.bit_of.result 1 0))
    c.ref_after.ensures
    ∙ ap (λ b. insert (g.R.RefStore.contents c.loop-place.ram) (ref_from c.args.at place)
    (cond b 1 0)) c.bit_of.ensures
    ∙ ap (λ n. insert n (ref_from c.args.at place) (cond on 1 0)) c.loop-place.invariant
    ∙ sym (stored_more m c.args.at c.args.word place c.loop-place-test.true)

pub returns-clause-stored : goal.returns-clause-stored
returns-clause-stored g c =
    let words = bit_words (word_bits c.args.word) in
    let size = length-bit_words (word_bits c.args.word) ∙ length-bits_high_first 16 c.args.word in
    c.loop-place.invariant
    ∙ ap (with_words (g.R.RefStore.contents c.args.ram.now) c.args.at)
    (take_all c.loop-place.place words (omega arith))

pub returns-clause-keeps : goal.returns-clause-keeps
returns-clause-keeps g c =
    let m = g.R.RefStore.contents c.args.ram.now in
    subst (Keeps m) (sym c.loop-place.invariant)
    (Keeps-with_words m c.args.at (take c.loop-place.place (bit_words (word_bits c.args.word))))
