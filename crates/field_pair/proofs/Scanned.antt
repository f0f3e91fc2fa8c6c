-- A scan of one of the two by what the field brings both.
use Rattle.std.proofs.Common.{◌≡◌, ◌<◌, ◌+◌, ◌++◌, ℕ, zero, suc, List, [], ◌∷◌, refl, sym, ap, ◌∙◌}
use Rattle.std.proofs.Common.{subst}
use Rattle.std.proofs.Common.{arith, get_or, length, take}
use Rattle.std.specs.List.{AllByRecursion}
use Rattle.std.proofs.Math.Seq.{take-suc}
use Rattle.plant_types.specs.declared.plan.ControllerPlan.{ControllerPlan}
use Rattle.plant_types.specs.declared.drops.IoDrop.{IoDrop}
use Rattle.scan_order.specs.Due.{full_scan}
use Rattle.state_space.specs.Reaching.{LeadBy, Reaches}
use Rattle.field_machine.specs.declared.exchanges.Exchange.{Exchange}
use Rattle.field_machine.specs.declared.field.Field.{Field}
use Rattle.field_machine.specs.Choices.{product, told_by}
use Rattle.field_machine.specs.Field.{IsField}
use Rattle.side_runs.specs.Brought.{NamesRows, rows_told}
use Rattle.field_pair.specs.declared.exchanges.Choice.{Choice}
use Rattle.field_pair.specs.declared.exchanges.Read.{Read}
use Rattle.field_pair.specs.declared.pair.Pair.{Pair}
use Rattle.field_pair.specs.Choices.{brought_by, choices_of_both, InRange, product_of, reads_of}
use Rattle.field_pair.specs.Choices.{way_in}
use Rattle.field_pair.specs.Exchanged.{field_of, read_by_both}
use Rattle.field_pair.specs.Pair.{IsPair}
use Rattle.field_pair.proofs.Scans.{in-range, products-same, way-told}
use Rattle.field_pair.proofs.Taking.{brought-rows, field-named}

-- the way of exchanges tells what a field brings by them
pub told-is : (plan : ControllerPlan) (exchanges : List Exchange) (reads : List Read) (way : ℕ)
    → reads ≡ reads_of plan → InRange reads exchanges → way ≡ way_in reads exchanges
    → told_by plan (full_scan plan) way ≡ rows_told plan (full_scan plan) (field_of exchanges)
told-is plan exchanges reads way are range is =
    ap (told_by plan (full_scan plan))
    (is ∙ ap (λ (rs : List Read). way_in rs exchanges) are)
    ∙ way-told plan exchanges (subst (λ (rs : List Read). InRange rs exchanges) are range)

-- there are as many ways as the machine of one of the two has moves
pub as-many : (field : Field) → IsField field → product_of (reads_of field.fixed.plan) ≡ field.moves
as-many field is =
    products-same field.fixed.plan ∙ sym (is.moves_are ∙ ap product is.choices_are)

module _ (pair : Pair) (parts : IsPair pair) (by : ℕ) (exchanges : List Exchange)
    (is : exchanges ≡ brought_by pair.choices.items by) where
  pub are-named : NamesRows pair.old.fixed.plan.drops (field_of exchanges)
  are-named =
      let old = pair.old.fixed.plan in
      let new = pair.new.fixed.plan in
      subst (λ (es : List Exchange). NamesRows old.drops (field_of es))
      (sym (is ∙ ap (λ (cs : List Choice). brought_by cs by) parts.choices))
      (field-named old.drops (brought_by (choices_of_both old new) by)
      (brought-rows old.drops (read_by_both old new) by))

  pub old-range : InRange (reads_of pair.old.fixed.plan) exchanges
  old-range =
      in-range pair.old.fixed.plan.drops pair.old.fixed.plan.orders exchanges are-named

  pub new-range : InRange (reads_of pair.new.fixed.plan) exchanges
  new-range =
      in-range pair.new.fixed.plan.drops pair.new.fixed.plan.orders exchanges
      (subst (λ (ds : List IoDrop). NamesRows ds (field_of exchanges)) (sym parts.one_field)
      are-named)

-- ---- moves one after another

lead-more : (count : ℕ) (leads : List ℕ → ℕ → List ℕ → Type 0) (path from at to : List ℕ) (by : ℕ)
    → LeadBy count leads from path at → by < count → leads at by to
    → LeadBy count leads from (path ++ by ∷ []) to
lead-more count leads [] from at to by same low lead =
    (low, (to, (subst (λ (k : List ℕ). leads k by to) (sym same) lead, refl)))
lead-more count leads (first ∷ path) from at to by l low lead =
    (l.0, (l.1.0, (l.1.1.0, lead-more count leads path l.1.0 at to by l.1.1.1 low lead)))

pub reaches-more : (starts : List ℕ → Type 0) (count : ℕ) (leads : List ℕ → ℕ → List ℕ → Type 0)
    (path at to : List ℕ) (i : ℕ) → i < length path
    → Reaches starts count leads (take i path) at → get_or path i 0 < count
    → leads at (get_or path i 0) to → Reaches starts count leads (take (i + 1) path) to
reaches-more starts count leads path at to i within r low lead =
    let up : suc i ≡ i + 1 = omega arith in
    let more : take i path ++ get_or path i 0 ∷ [] ≡ take (i + 1) path =
    sym (take-suc path i 0 within) ∙ ap (λ k. take k path) up in
    subst (λ (l : List ℕ). Reaches starts count leads l to) more (record {
      first = r.first;
      is_first = r.is_first;
      leads_on = lead-more count leads (take i path) r.first at to (get_or path i 0) r.leads_on low
          lead;
    })

pub move-below : (count : ℕ) (path : List ℕ) (i : ℕ) → AllByRecursion (λ by. by < count) path
    → i < length path → get_or path i 0 < count
move-below count [] i all within = absurd (omega (arith, within))
move-below count (by ∷ path) zero all within = all.0
move-below count (by ∷ path) (suc i) all within =
    move-below count path i all.1 (omega (arith, within))
