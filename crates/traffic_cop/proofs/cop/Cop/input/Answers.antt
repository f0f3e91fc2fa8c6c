use Rattle.std.proofs.Common.{◌≡◌, ◌≤◌, ℕ, List, length, take, replicate, Some, None, refl, sym, ap}
use Rattle.std.proofs.Common.{◌∙◌}
use Rattle.std.specs.Prelude.{slice_get}
use Rattle.std.proofs.lemmas.Bool.{ltb-true, ltb-false}
use Rattle.std.proofs.lemmas.List.{take-replicate}
use Rattle.std.proofs.lemmas.Option.{slice_get_read, slice_get_past}
use Rattle.plant_types.specs.declared.drops.ScriptRow.{ScriptRow}
use Rattle.plant_types.specs.declared.drops.ScriptRow.TheVariants.{Row}
use Rattle.traffic_cop.specs.Exchange.{put_all, row_at, input_total}
use Rattle.traffic_cop.proofs.DropLemmas.{FindsRow, stored_by_row, health_by_row}
use Rattle.traffic_cop.proofs.cop.Cop.input.Goals as goal

pub returns-in-None-clause-stored : goal.returns-in-None-clause-stored
returns-in-None-clause-stored g c =
    let m = g.R.RefStore.contents c.args.ram.now in
    let script = c.as_slice-script.result.now in
    let modules = c.as_slice-modules.result.now in
    let fits = c.requires.ready.fits in
    let same : c.drop_of-found.result.now ≡ c.requires.ready.found =
    cc (c.drop_of-found.ensures, c.requires.ready.named) in
    let total : c.input_total.result ≤ 64 =
    rw (c.input_total.ensures, c.as_slice-modules.ensures, same) fits.inputs in
    let zeros : take c.input_total.result (replicate 64 0) ≡ replicate (input_total modules) 0 =
    take-replicate c.input_total.result 64 0 total
    ∙ ap (λ n. replicate n 0) c.input_total.ensures in
    let past = slice_get_past script c.row_place.result
    (ltb-false _ _ (sym c.in-None.ensures.lookup.0)) in
    let row : row_at script c.args.k ≡ None =
    ap (slice_get script) (sym c.row_place.ensures) ∙ past in
    let finds : FindsRow c.args.self.now c.args.drop c.args.k modules None = record {
      found = c.drop_of-found.result.now;
      named = c.drop_of-found.ensures;
      modules_are = c.as_slice-modules.ensures;
      row_is = ap (λ (s : List ScriptRow). row_at s c.args.k) (sym c.as_slice-script.ensures) ∙ row;
    } in
    c.put_all.ensures.stored ∙ ap (λ (w : List ℕ). put_all modules w m) zeros
    ∙ stored_by_row c.args.self.now c.args.drop c.args.k modules None m finds

pub returns-in-Some-Row-clause-health : goal.returns-in-Some-Row-clause-health
returns-in-Some-Row-clause-health g c =
    let script = c.as_slice-script.result.now in
    let modules = c.as_slice-modules.result.now in
    let there = slice_get_read script (length script) c.row_place.result c.in-Some-Row.field-0.now
    refl (ltb-true _ _
    (sym c.in-Some-Row.ensures.lookup.0)) c.in-Some-Row.ensures.lookup.1 in
    let row : row_at script c.args.k ≡ Some (Row c.in-Some-Row.words) =
    ap (slice_get script) (sym c.row_place.ensures) ∙ there
    ∙ ap Some c.in-Some-Row.field-0-is in
    let finds : FindsRow c.args.self.now c.args.drop c.args.k modules
    (Some (Row c.in-Some-Row.words)) = record {
      found = c.drop_of-found.result.now;
      named = c.drop_of-found.ensures;
      modules_are = c.as_slice-modules.ensures;
      row_is = ap (λ (s : List ScriptRow). row_at s c.args.k) (sym c.as_slice-script.ensures) ∙ row;
    } in
    health_by_row c.args.self.now c.args.drop c.args.k modules
    (Some (Row c.in-Some-Row.words)) finds

pub returns-in-Some-Row-clause-stored : goal.returns-in-Some-Row-clause-stored
returns-in-Some-Row-clause-stored g c =
    let m = g.R.RefStore.contents c.args.ram.now in
    let script = c.as_slice-script.result.now in
    let modules = c.as_slice-modules.result.now in
    let there = slice_get_read script (length script) c.row_place.result c.in-Some-Row.field-0.now
    refl (ltb-true _ _
    (sym c.in-Some-Row.ensures.lookup.0)) c.in-Some-Row.ensures.lookup.1 in
    let row : row_at script c.args.k ≡ Some (Row c.in-Some-Row.words) =
    ap (slice_get script) (sym c.row_place.ensures) ∙ there
    ∙ ap Some c.in-Some-Row.field-0-is in
    let finds : FindsRow c.args.self.now c.args.drop c.args.k modules
    (Some (Row c.in-Some-Row.words)) = record {
      found = c.drop_of-found.result.now;
      named = c.drop_of-found.ensures;
      modules_are = c.as_slice-modules.ensures;
      row_is = ap (λ (s : List ScriptRow). row_at s c.args.k) (sym c.as_slice-script.ensures) ∙ row;
    } in
    c.put_all-in-Some-Row.ensures.stored ∙ ap (λ (w : List ℕ). put_all modules w m) c.words.ensures
    ∙ stored_by_row c.args.self.now c.args.drop c.args.k modules
    (Some (Row c.in-Some-Row.words)) m finds
