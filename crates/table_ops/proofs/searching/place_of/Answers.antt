use Rattle.std.proofs.Common.{◌≡◌, ◌≢◌, ◌∙◌, sym, ap, arith}
use Rattle.plant_types.specs.Reference.{ref_from}
use Rattle.plant_types.specs.Store.{word_at}
use Rattle.table_ops.proofs.TableLemmas.{first_place-here, first_place-later, first_place-nowhere}
use Rattle.table_ops.proofs.searching.place_of.Goals as goal

pub returns-then-word-value-clause-found : goal.returns-then-word-value-clause-found
returns-then-word-value-clause-found g c =
    let m = g.R.RefStore.contents c.args.ram.now in
    let here : word_at m (ref_from c.args.table c.loop-place.place) ≡ c.args.value =
    ap (word_at m) (sym c.ref_after.ensures) ∙ sym c.word.ensures
    ∙ c.if-word-value.true in
    sym (first_place-here m c.args.table c.args.length c.loop-place.place c.args.value
    (omega arith) here) ∙ c.loop-place.invariant

pub loop-place-preserved : goal.loop-place-preserved
loop-place-preserved g c =
    let m = g.R.RefStore.contents c.args.ram.now in
    let other : word_at m (ref_from c.args.table c.loop-place.place) ≢ c.args.value =
    λ e. c.if-word-value.false (c.word.ensures ∙ ap (word_at m) c.ref_after.ensures ∙ e) in
    first_place-later m c.args.table c.args.length c.loop-place.place c.args.value
    (omega arith) other ∙ c.loop-place.invariant

pub returns-clause-found : goal.returns-clause-found
returns-clause-found g c =
    let m = g.R.RefStore.contents c.args.ram.now in
    sym (first_place-nowhere m c.args.table c.args.length c.loop-place.place c.args.value
    (omega arith)) ∙ c.loop-place.invariant
