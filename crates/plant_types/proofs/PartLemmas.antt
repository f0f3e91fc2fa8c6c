-- The part of a store at the references of another, and the entries that a copy leaves.
use Rattle.std.proofs.Common.{◌≡◌, ℕ, Bool, true, false, cond, ◌&&◌, List, [], ◌∷◌, map, Option}
use Rattle.std.proofs.Common.{Some, None, is_some, unwrap_or, refl, sym, ap, subst, ◌∙◌, arith}
use Rattle.std.specs.Prelude.{nat_le}
use Rattle.std.proofs.lemmas.Bool.{false≢true, and_parts, leb-true}
use Rattle.std.specs.Ordering.{is_eq}
use Rattle.std.specs.declared.cmp.Ordering.{Ordering}
use Rattle.std.specs.declared.cmp.Ordering.TheVariants.{Less, Equal, Greater}
use Rattle.std.specs.BTreeMap.{is_at}
use Rattle.std.specs.Map.Calls.{RetainsPairs}
use Rattle.std.specs.FinMap.{get, contains_key, from_entries, get-retain_keys, same_map}
use Rattle.plant_types.specs.declared.reference.Ref.{Ref}
use Rattle.plant_types.specs.declared.reference.RefKind.{RefKind}
use Rattle.plant_types.specs.declared.reference.RefKind.TheVariants.{Coil, Input, InputRegister}
use Rattle.plant_types.specs.declared.reference.RefKind.TheVariants.{Register}
use Rattle.plant_types.specs.Reference.{ref_cmp}
use Rattle.plant_types.specs.Sizes.{Sizes, has_reference, discretes_of, cleared, discretes}
use Rattle.plant_types.specs.Sizes.{DiscretesFollow}
use Rattle.plant_types.specs.Store.{Contents, Keeps, part_within}
use Rattle.plant_types.proofs.Contents.{exact_refs, refs_total, found_at, get_ref}
use Rattle.plant_types.proofs.SizesLemmas.{get-cleared, contains_key-cleared}

-- a test of references answers alike at references that compare alike
alike : (p : Ref → Bool) (q x : Ref) → ref_cmp q x ≡ Equal → p x ≡ p q
alike p q x e = ap p (sym (exact_refs q x e))

-- what the part has at a reference
pub get-part_at : (other m : Contents) (q : Ref)
    → get (part_within other m) q ≡ cond (contains_key other q) (get m q) None
get-part_at other m q = get-retain_keys m (contains_key other) q (alike (contains_key other) q)

-- what is held wherever it is asked for is held exactly there
held_or : (b : Bool) (o : Option ℕ) → (b ≡ true → is_some o ≡ true) → is_some (cond b o None) ≡ b
held_or true o h = h refl
held_or false o h = refl

-- the part of a store that has all of the other's references has those references and no more
pub contains_key-part_at : (other m : Contents) (q : Ref) → Keeps other m
    → contains_key (part_within other m) q ≡ contains_key other q
contains_key-part_at other m q keeps = ap is_some (get-part_at other m q)
    ∙ held_or (contains_key other q) (get m q) (keeps q)

-- no default is taken where something is held
unless_none : (b : Bool) (o : Option ℕ) → (b ≡ true → is_some o ≡ true)
    → cond b (Some (unwrap_or o 0)) None ≡ cond b o None
unless_none true None h = absurd (false≢true (h refl))
unless_none true (Some n) h = refl
unless_none false o h = refl

-- a closure that always answers `true`, writes what a key is given and stays as it was leaves each
-- key with that
pub pairs_written : {F K X : Type 0} (T : F → K → X → Bool → X → F → Type 0) (g : K → X) (f : F)
    → ((k : K) (v : X) (b : Bool) (w : X) (f' : F) → T f k v b w f'
    → (b ≡ true) × (w ≡ g k) × (f' ≡ f))
    → (es kept : List (K × X)) → RetainsPairs T f es kept → kept ≡ map (λ e. (e.0, g e.0)) es
pairs_written T g f each [] kept r = r
pairs_written T g f each (e ∷ es) kept r =
    let here = each e.0 e.1 r.0 r.1 r.2 r.4 in
    let rest = pairs_written T g f each es r.3 (subst (λ u. RetainsPairs T u es r.3) here.2 r.5) in
    r.6 ∙ ap (λ b. cond b ((e.0, r.1) ∷ r.3) r.3) here.0 ∙ (λ i. (e.0, here.1 i) ∷ rest i)

-- an entry that stands at a reference is one of that reference
found-here : (o : Ordering) (g : Ref → ℕ) (q x : Ref) (n : ℕ) (rest : Option ℕ) → ref_cmp q x ≡ o
    → cond (is_eq o) (Some (g x)) (cond (is_some rest) (Some (g q)) None)
    ≡ cond (is_some (cond (is_eq o) (Some n) rest)) (Some (g q)) None
found-here Less g q x n rest e = refl
found-here Equal g q x n rest e = ap (λ r. Some (g r)) (sym (exact_refs q x e))
found-here Greater g q x n rest e = refl

-- entries that have at each of their references what it is given
found_at-written : (g : Ref → ℕ) (es : List (Ref × ℕ)) (q : Ref)
    → found_at (map (λ e. (e.0, g e.0)) es) q ≡ cond (is_some (found_at es q)) (Some (g q)) None
found_at-written g [] q = refl
found_at-written g (e ∷ es) q =
    ap (cond (is_at (ref_cmp q) e.0) (Some (g e.0))) (found_at-written g es q)
    ∙ found-here (ref_cmp q e.0) g q e.0 e.1 (found_at es q) refl

-- entries that take each its number from another store make the part of that store
pub from_entries-copied : (es : List (Ref × ℕ)) (m : Contents) → Keeps (from_entries es) m
    → from_entries {R = ref_cmp} (map (λ e. (e.0, unwrap_or (get m e.0) 0)) es)
    ≡ part_within (from_entries es) m
from_entries-copied es m keeps = same_map refs_total exact_refs _ _ (λ q.
    get_ref _ q ∙ found_at-written (λ r. unwrap_or (get m r) 0) es q
    ∙ ap (λ o. cond (is_some o) (Some (unwrap_or (get m q) 0)) None) (sym (get_ref es q))
    ∙ unless_none (contains_key (from_entries es) q) (get m q) (keeps q)
    ∙ sym (get-part_at (from_entries es) m q))

-- what the discretes of a store have at a reference
get-discretes : (sizes : Sizes) (m : Contents) (q : Ref)
    → get (discretes sizes m) q ≡ cond (has_reference (discretes_of sizes) q) (get m q) None
get-discretes sizes m q = get-retain_keys m (has_reference (discretes_of sizes)) q
    (alike (has_reference (discretes_of sizes)) q)

-- there is no number from 1 to 0
no_register : (number : ℕ) → nat_le 1 number && nat_le number 0 ≡ true → ⊥
no_register number h =
    let parts = and_parts (nat_le 1 number) (nat_le number 0) h in
    let low = leb-true _ _ parts.0 in
    let high = leb-true _ _ parts.1 in
    absurd (omega arith)

-- a discrete of the sizes is one of their references
has_reference-discrete : (sizes : Sizes) (kind : RefKind) (number : ℕ)
    → has_reference (discretes_of sizes) (record { kind = kind; number = number }) ≡ true
    → has_reference sizes (record { kind = kind; number = number }) ≡ true
has_reference-discrete sizes Coil number h = h
has_reference-discrete sizes Input number h = h
has_reference-discrete sizes InputRegister number h = absurd (no_register number h)
has_reference-discrete sizes Register number h = absurd (no_register number h)

-- so a store with all references of the sizes has each discrete of them
has_discrete : (sizes : Sizes) (m : Contents) (q : Ref) → Keeps (cleared sizes) m
    → has_reference (discretes_of sizes) q ≡ true → contains_key m q ≡ true
has_discrete sizes m q keeps h =
    keeps q (contains_key-cleared sizes q ∙ has_reference-discrete sizes q.kind q.number h)

-- and its discretes are those of the sizes
contains_key-discretes : (sizes : Sizes) (m : Contents) (q : Ref) → Keeps (cleared sizes) m
    → contains_key (discretes sizes m) q ≡ has_reference (discretes_of sizes) q
contains_key-discretes sizes m q keeps =
    ap is_some (get-discretes sizes m q)
    ∙ held_or (has_reference (discretes_of sizes) q) (get m q) (has_discrete sizes m q keeps)

-- what is held only where it is asked for is asked for
asked : (b : Bool) (o : Option ℕ) → is_some (cond b o None) ≡ true → b ≡ true
asked true o h = refl
asked false o h = h

-- a 0 that stands wherever it is asked for
fresh_number : (b c : Bool) → (b ≡ true → c ≡ true)
    → cond {A = Option ℕ} b (cond c (Some 0) None) None ≡ cond b (Some 0) None
fresh_number true true h = refl
fresh_number true false h = absurd (false≢true (h refl))
fresh_number false c h = refl

-- the discretes of a store follow it
pub discretes-follow : DiscretesFollow
discretes-follow = record {
  fresh = λ sizes. same_map refs_total exact_refs _ _ (λ q.
      get-discretes sizes (cleared sizes) q
      ∙ ap (λ o. cond (has_reference (discretes_of sizes) q) o None) (get-cleared sizes q)
      ∙ fresh_number (has_reference (discretes_of sizes) q) (has_reference sizes q)
      (has_reference-discrete sizes q.kind q.number)
      ∙ sym (get-cleared (discretes_of sizes) q));
  copied = λ sizes m n keeps. same_map refs_total exact_refs _ _ (λ q.
      get-part_at (discretes sizes m) n q
      ∙ ap (λ b. cond b (get n q) None) (contains_key-discretes sizes m q keeps)
      ∙ sym (get-discretes sizes n q));
  held = λ sizes m n keeps q h.
      has_discrete sizes n q keeps (asked (has_reference (discretes_of sizes) q) (get m q)
      (ap is_some (sym (get-discretes sizes m q)) ∙ h));
  kept = λ sizes m keeps q h. contains_key-discretes sizes m q keeps
      ∙ sym (contains_key-cleared (discretes_of sizes) q) ∙ h;
}
