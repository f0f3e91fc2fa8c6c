-- The discretes of a store that are on.
use Rattle.std.proofs.Common.{◌≡◌, ℕ, Bool, true, false, cond, ◌&&◌, Option, Some, None, is_some}
use Rattle.std.proofs.Common.{refl, sym, ap, ◌∙◌}
use Rattle.std.specs.Prelude.{unwrap_or, nat_lt}
use Rattle.std.specs.Ordering.{is_eq, eq_by_cmp}
use Rattle.std.specs.declared.cmp.Ordering.{Ordering}
use Rattle.std.specs.declared.cmp.Ordering.TheVariants.{Less, Equal, Greater}
use Rattle.std.specs.FinMap.{get, keys, contains_key-keys}
use Rattle.std.specs.FinSet.{contains, contains-empty, contains-from_list, same_set}
use Rattle.std.proofs.lemmas.Bool.{false≢true}
use Rattle.std.proofs.lemmas.Map.Views.{any-filter_same}
use Rattle.plant_types.specs.declared.reference.Ref.{Ref}
use Rattle.plant_types.specs.Reference.{ref_cmp, is_discrete}
use Rattle.plant_types.specs.Sizes.{cleared, has_reference}
use Rattle.plant_types.specs.Store.{Contents, is_on}
use Rattle.plant_types.specs.Discretes.{discretes_on, DiscretesAreOn}
use Rattle.plant_types.proofs.Contents.{refs_total, exact_refs}
use Rattle.plant_types.proofs.SizesLemmas.{get-cleared}

-- two references that compare alike are one
ties : (o : Ordering) → is_eq o ≡ true → o ≡ Equal
ties Less h = absurd (false≢true h)
ties Equal h = refl
ties Greater h = absurd (false≢true h)

both_true : (b : Bool) → b && true ≡ b
both_true true = refl
both_true false = refl

-- what is on is there
on_there : (discrete : Bool) (o : Option ℕ)
    → (discrete && nat_lt 0 (unwrap_or o 0)) && is_some o ≡ discrete && nat_lt 0 (unwrap_or o 0)
on_there true None = refl
on_there true (Some n) = both_true (nat_lt 0 n)
on_there false o = refl

contains-discretes_on : (m : Contents) (at : Ref)
    → contains (discretes_on m) at ≡ is_discrete at.kind && is_on m at
unfolding discretes_on
contains-discretes_on m at =
    let on = λ (x : Ref). is_discrete x.kind && is_on m x in
    contains-from_list refs_total _ at
    ∙ any-filter_same (eq_by_cmp ref_cmp at) on (on at)
    (λ x tie. ap on (sym (exact_refs at x (ties (ref_cmp at x) tie)))) (keys m)
    ∙ ap (λ b. on at && b) (sym (contains_key-keys m at))
    ∙ on_there (is_discrete at.kind) (get m at)

-- a 0 is off
off : (discrete there : Bool)
    → discrete && nat_lt 0 (unwrap_or (cond there (Some 0) None) 0) ≡ false
off true true = refl
off true false = refl
off false there = refl

pub discretes-are_on : DiscretesAreOn
discretes-are_on = record {
  each = contains-discretes_on;
  fresh = λ sizes. same_set refs_total exact_refs _ _ (λ at.
      contains-discretes_on (cleared sizes) at
      ∙ ap (λ o. is_discrete at.kind && nat_lt 0 (unwrap_or o 0)) (get-cleared sizes at)
      ∙ off (is_discrete at.kind) (has_reference sizes at) ∙ sym (contains-empty ref_cmp at));
}
