-- The keys of an ordered set of references, and the set that they make.
use Rattle.std.proofs.Common.{◌≡◌, Bool, true, false, cond, List, [], ◌∷◌, refl, sym, ap, ◌∙◌}
use Rattle.std.specs.Prelude.{◌||◌}
use Rattle.std.specs.BTreeMap.{is_at}
use Rattle.std.specs.Cmp.{eq_by_cmp_equiv}
use Rattle.std.specs.FinSet.{contains, from_list, insert, contains-from_list, contains-insert}
use Rattle.std.specs.FinSet.{same_set}
use Rattle.std.specs.List.{list_any}
use Rattle.std.specs.Ordering.{is_eq, eq_by_cmp}
use Rattle.plant_types.specs.declared.reference.Ref.{Ref}
use Rattle.plant_types.specs.contracts.reference.RefOrd.TheImpl as derived
use Rattle.plant_types.specs.Reference.{ref_cmp}
use Rattle.plant_types.proofs.Contents.{derived_refs, exact_refs, refs_total}

by-code : (keys : List Ref) (q : Ref)
    → list_any (is_at (derived.cmp-value.it q)) keys ≡ list_any (eq_by_cmp ref_cmp q) keys
by-code [] q = refl
by-code (k ∷ keys) q =
    let one = derived_refs q k in
    let rest = by-code keys q in
    λ i. is_eq (one i) || rest i

-- what the code finds among the keys, their set has
pub found-keys : (keys : List Ref) (q : Ref)
    → list_any (is_at (derived.cmp-value.it q)) keys ≡ contains (from_list {R = ref_cmp} keys) q
found-keys keys q = by-code keys q ∙ sym (contains-from_list refs_total keys q)

either : (b c : Bool) → cond b true c ≡ b || c
either true c = refl
either false c = refl

-- keys with one more make the set with one more
pub one-added : (old new : List Ref) (at : Ref) → ((q : Ref)
    → list_any (is_at (derived.cmp-value.it q)) new
    ≡ cond (is_at (derived.cmp-value.it at) q) true (list_any (is_at (derived.cmp-value.it q)) old))
    → from_list {R = ref_cmp} new ≡ insert (from_list old) at
one-added old new at h = same_set refs_total exact_refs _ _ (λ q.
    let same : is_at (derived.cmp-value.it at) q ≡ eq_by_cmp ref_cmp q at =
    ap is_eq (derived_refs at q) ∙ (eq_by_cmp_equiv refs_total).symm at q in
    let had = found-keys old q in
    sym (found-keys new q) ∙ (h q
    ∙ ((λ i. cond (same i) true (had i))
    ∙ (either (eq_by_cmp ref_cmp q at) (contains (from_list old) q)
    ∙ sym (contains-insert refs_total (from_list old) at q)))))
