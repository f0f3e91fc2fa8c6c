-- The map that the entries of a store make, reference by reference.
use Rattle.std.proofs.Common.{◌≡◌, ℕ, ◌+◌, add-one, cond, List, [], ◌∷◌, ◌++◌, Option, Some, refl}
use Rattle.std.proofs.Common.{sym, ap, ◌∙◌, nat_cmp}
use Rattle.std.specs.Cmp.{IsTotalOrder, nat_cmp_total, eq_by_cmp_equiv}
use Rattle.std.specs.BTreeMap.{is_at}
use Rattle.std.specs.Map.{lookup}
use Rattle.std.specs.Ordering.{ordering_then, is_eq}
use Rattle.std.specs.FinMap.{get, insert, from_entries, find, get-from_entries, get-insert}
use Rattle.std.specs.FinMap.{same_map}
use Rattle.std.proofs.lemmas.Cmp.{on_total, then_total}
use Rattle.std.proofs.lemmas.Map.Lookups.{CmpEqualImpliesEq, exact_pairs, exact_unsigned}
use Rattle.plant_types.specs.declared.reference.Ref.{Ref}
use Rattle.plant_types.specs.contracts.reference.RefOrd.TheImpl as derived
use Rattle.plant_types.specs.contracts.reference.RefKindOrd.TheImpl as derived_kind
use Rattle.plant_types.specs.declared.reference.RefKind.{RefKind}
use Rattle.plant_types.specs.declared.reference.RefKind.TheVariants.{Coil, Input, InputRegister}
use Rattle.plant_types.specs.declared.reference.RefKind.TheVariants.{Register}
use Rattle.plant_types.specs.Reference.{ref_cmp, rank_of}
use Rattle.plant_types.specs.MapRam.{kind_of_rank, ref_again}
use Rattle.plant_types.specs.Sizes.{zeros}

-- references that compare alike are one
pub exact_refs : CmpEqualImpliesEq ref_cmp
exact_refs a b h =
    sym (ref_again a)
    ∙ ap (λ (p : ℕ × ℕ). record { kind = kind_of_rank p.0; number = p.1 })
    (exact_pairs nat_cmp nat_cmp exact_unsigned exact_unsigned (rank_of a.kind, a.number)
    (rank_of b.kind, b.number) h)
    ∙ ref_again b

pub refs_total : IsTotalOrder ref_cmp
refs_total = then_total (on_total (λ r. rank_of r.kind) nat_cmp_total)
    (on_total (λ r. r.number) nat_cmp_total)

-- what the entries have at a reference
abbrev pub found_at : List (Ref × ℕ) → Ref → Option ℕ
found_at es q = lookup (is_at (ref_cmp q)) es

-- the order that the derive makes is the one of the definitions
derived_kinds : (k l : RefKind) → derived_kind.cmp-value.it k l ≡ nat_cmp (rank_of k) (rank_of l)
derived_kinds Coil Coil = refl
derived_kinds Coil Input = refl
derived_kinds Coil InputRegister = refl
derived_kinds Coil Register = refl
derived_kinds Input Coil = refl
derived_kinds Input Input = refl
derived_kinds Input InputRegister = refl
derived_kinds Input Register = refl
derived_kinds InputRegister Coil = refl
derived_kinds InputRegister Input = refl
derived_kinds InputRegister InputRegister = refl
derived_kinds InputRegister Register = refl
derived_kinds Register Coil = refl
derived_kinds Register Input = refl
derived_kinds Register InputRegister = refl
derived_kinds Register Register = refl

pub derived_refs : (a b : Ref) → derived.cmp-value.it a b ≡ ref_cmp a b
derived_refs a b =
    ap (λ o. ordering_then o (nat_cmp a.number b.number)) (derived_kinds a.kind b.kind)

-- so the map of the code finds what the definitions find
pub found_by_code : (es : List (Ref × ℕ)) (q : Ref)
    → lookup (is_at (derived.cmp-value.it q)) es ≡ found_at es q
found_by_code [] q = refl
found_by_code (e ∷ es) q = rw (derived_refs q e.0, found_by_code es q) refl

find_ref : (es : List (Ref × ℕ)) (q : Ref) → find ref_cmp q es ≡ found_at es q
find_ref [] q = refl
find_ref (e ∷ es) q = ap (cond (is_at (ref_cmp q) e.0) (Some e.1)) (find_ref es q)

pub get_ref : (es : List (Ref × ℕ)) (q : Ref)
    → get (from_entries {R = ref_cmp} es) q ≡ found_at es q
get_ref es q = get-from_entries refs_total es q ∙ find_ref es q

-- entries that differ at one reference make maps that differ there
pub one_set : (es fs : List (Ref × ℕ)) (s : Ref) (n : ℕ)
    → ((q : Ref) → found_at fs q ≡ cond (is_at (ref_cmp s) q) (Some n) (found_at es q))
    → from_entries {R = ref_cmp} fs ≡ insert (from_entries es) s n
one_set es fs s n h = same_map refs_total exact_refs _ _ (λ q.
    get_ref fs q ∙ h q
    ∙ ap (λ b. cond b (Some n) (found_at es q)) ((eq_by_cmp_equiv refs_total).symm s q)
    ∙ sym (get-insert refs_total (from_entries es) s n q
    ∙ ap (cond (is_at (ref_cmp q) s) (Some n)) (get_ref es q)))

-- the same of the order that the derive makes
pub one_written : (es fs : List (Ref × ℕ)) (s : Ref) (n : ℕ) → ((q : Ref)
    → lookup (is_at (derived.cmp-value.it q)) fs ≡ cond (is_at (derived.cmp-value.it s) q) (Some n)
    (lookup (is_at (derived.cmp-value.it q)) es))
    → from_entries {R = ref_cmp} fs ≡ insert (from_entries es) s n
one_written es fs s n h = one_set es fs s n (λ q.
    sym (found_by_code fs q) ∙ h q
    ∙ ap (λ o. cond (is_eq o) (Some n) (lookup (is_at (derived.cmp-value.it q)) es))
    (derived_refs s q)
    ∙ ap (cond (is_at (ref_cmp s) q) (Some n)) (found_by_code es q))

-- more entries on top of two lists that make one map
pub from_entries-under : (xs a b : List (Ref × ℕ)) → from_entries {R = ref_cmp} a ≡ from_entries b
    → from_entries {R = ref_cmp} (xs ++ a) ≡ from_entries (xs ++ b)
from_entries-under [] a b e = e
from_entries-under (x ∷ xs) a b e = ap (λ m. insert m x.0 x.1) (from_entries-under xs a b e)

-- the next reference of a kind
pub zeros-next : (kind : RefKind) (n : ℕ) (rest : List (Ref × ℕ))
    → insert (from_entries {R = ref_cmp} (zeros kind n ++ rest))
    (record { kind = kind; number = n + 1 }) 0 ≡ from_entries (zeros kind (n + 1) ++ rest)
zeros-next kind n rest = rw add-one refl
