use Rattle.std.proofs.Common.{◌<◌, length, get_or, take, cond, refl, sym, ap, ◌∙◌, false, arith}
use Rattle.std.specs.FinMap.{insert}
use Rattle.plant_types.specs.declared.reference.RefKind.TheVariants as kinds
use Rattle.plant_types.specs.Reference.{ref_from}
use Rattle.plant_types.specs.Store.{with_words}
use Rattle.plant_types.proofs.RunLemmas.{Keeps-with_words}
use Rattle.plant_types.specs.Discretes.{bit_words}
use Rattle.modbus_exec.specs.Runs.{reference_at}
use Rattle.plant_types.proofs.DiscretesLemmas.{length-bit_words}
use Rattle.modbus_exec.proofs.RunLemmas.{with_words-more, stored_bit}
use Rattle.modbus_exec.proofs.runs.write_bits.Goals as goal

pub loop-place-init : goal.loop-place-init
unfolding with_words
loop-place-init g c = refl

pub set_bit-requires-clause-held : goal.set_bit-requires-clause-held
set_bit-requires-clause-held g c =
    let m = g.R.RefStore.contents c.args.ram.now in
    let at = reference_at kinds.Coil c.args.address in
    let words = bit_words c.args.bits.now in
    rw (c.reference_behind.ensures, c.loop-place.invariant)
    (Keeps-with_words m at (take c.loop-place.place words) (ref_from at c.loop-place.place)
    (c.requires.held c.loop-place.place (omega arith)))

pub loop-place-preserved : goal.loop-place-preserved
loop-place-preserved g c =
    let m = g.R.RefStore.contents c.args.ram.now in
    let at = reference_at kinds.Coil c.args.address in
    let place = c.loop-place.place in
    let words = bit_words c.args.bits.now in
    let within : place < length words = omega (arith, length-bit_words c.args.bits.now) in
    c.set_bit.ensures.stored
    ∙ ap (λ r. insert (g.R.RefStore.contents c.loop-place.ram) r
    (cond (get_or c.args.bits.now place false) 1 0)) c.reference_behind.ensures
    ∙ ap (λ n. insert n (ref_from at place) (cond (get_or c.args.bits.now place false) 1 0))
    c.loop-place.invariant
    ∙ ap (insert (with_words m at (take place words)) (ref_from at place))
    (sym (stored_bit c.args.bits.now place (omega arith)))
    ∙ sym (with_words-more m at words place within)
