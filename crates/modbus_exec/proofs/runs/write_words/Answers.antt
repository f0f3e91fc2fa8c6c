use Rattle.std.proofs.Common.{◌<◌, length, get_or, take, refl, sym, ap, ◌∙◌, arith}
use Rattle.std.specs.FinMap.{insert}
use Rattle.plant_types.specs.declared.reference.RefKind.TheVariants as kinds
use Rattle.plant_types.specs.Reference.{ref_from}
use Rattle.plant_types.specs.Store.{with_words}
use Rattle.plant_types.proofs.RunLemmas.{Keeps-with_words}
use Rattle.modbus_exec.specs.Runs.{reference_at}
use Rattle.modbus_exec.proofs.RunLemmas.{with_words-more}
use Rattle.modbus_exec.proofs.runs.write_words.Goals as goal

pub loop-place-init : goal.loop-place-init
unfolding with_words
loop-place-init g c = refl

pub set_word-requires-clause-held : goal.set_word-requires-clause-held
set_word-requires-clause-held g c =
    let m = g.R.RefStore.contents c.args.ram.now in
    let at = reference_at kinds.Register c.args.address in
    let words = c.args.words.now in
    rw (c.reference_behind.ensures, c.loop-place.invariant)
    (Keeps-with_words m at (take c.loop-place.place words) (ref_from at c.loop-place.place)
    (c.requires.held c.loop-place.place (omega arith)))

pub loop-place-preserved : goal.loop-place-preserved
loop-place-preserved g c =
    let m = g.R.RefStore.contents c.args.ram.now in
    let at = reference_at kinds.Register c.args.address in
    let place = c.loop-place.place in
    let words = c.args.words.now in
    let within : place < length words = omega arith in
    c.set_word.ensures.stored
    ∙ ap (λ r. insert (g.R.RefStore.contents c.loop-place.ram) r (get_or c.args.words.now place 0))
    c.reference_behind.ensures
    ∙ ap (λ n. insert n (ref_from at place) (get_or c.args.words.now place 0))
    c.loop-place.invariant
    ∙ sym (with_words-more m at words place within)
