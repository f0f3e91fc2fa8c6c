-- What a map of given numbers has at a reference, and when one is another with one number set.
use Rattle.std.proofs.Common.{◌≡◌, ℕ, Bool, true, false, cond, List, [], ◌∷◌, map, Option, Some}
use Rattle.std.proofs.Common.{None, is_some, refl, sym, ap, ◌∙◌, ◌≤◌}
use Rattle.std.specs.Prelude.{nat_le}
use Rattle.std.proofs.lemmas.Bool.{and_parts, leb-true}
use Rattle.std.specs.Ordering.{is_eq}
use Rattle.std.specs.declared.cmp.Ordering.{Ordering}
use Rattle.std.specs.declared.cmp.Ordering.TheVariants.{Less, Equal, Greater}
use Rattle.std.specs.BTreeMap.{is_at}
use Rattle.std.specs.Cmp.{tied_itself}
use Rattle.std.specs.FinMap.{get, insert, contains_key, same_map}
use Rattle.plant_types.specs.declared.reference.Ref.{Ref}
use Rattle.plant_types.specs.Reference.{ref_cmp}
use Rattle.plant_types.specs.declared.sizes.Sizes.{Sizes}
use Rattle.plant_types.specs.Sizes.{has_reference, cleared, count_of}
use Rattle.plant_types.specs.Store.{Contents, part_within}
use Rattle.plant_types.proofs.Contents.{exact_refs, refs_total, found_at, get_ref}
use Rattle.plant_types.proofs.SizesLemmas.{get-cleared, contains_key-cleared}
use Rattle.plant_types.proofs.PartLemmas.{get-part_at}
use Rattle.plant_types.proofs.RunLemmas.{get-insert_same, get-insert_other}
use Rattle.state_ram.specs.Packed.{all_zeros, filled}

-- an entry that stands at a reference is one of that reference
found-here : (o : Ordering) (g : Ref → ℕ) (q x : Ref) (n : ℕ) (rest : Option ℕ) → ref_cmp q x ≡ o
    → cond (is_eq o) (Some (g x)) (cond (is_some rest) (Some (g q)) None)
    ≡ cond (is_some (cond (is_eq o) (Some n) rest)) (Some (g q)) None
found-here Less g q x n rest e = refl
found-here Equal g q x n rest e = ap (λ r. Some (g r)) (sym (exact_refs q x e))
found-here Greater g q x n rest e = refl

-- entries that have at each of their references what it is given
found_at-written : (g : Ref → ℕ) (es : List (Ref × ℕ)) (q : Ref)
    → found_at (map (λ e. (e.0, g e.0)) es) q ≡ cond (is_some (found_at es q)) (Some (g q)) None
found_at-written g [] q = refl
found_at-written g (e ∷ es) q =
    ap (cond (is_at (ref_cmp q) e.0) (Some (g e.0))) (found_at-written g es q)
    ∙ found-here (ref_cmp q e.0) g q e.0 e.1 (found_at es q) refl

-- a map of given numbers has at each reference of its sizes the number that it is given, and no
-- others
pub get-filled : (sizes : Sizes) (g : Ref → ℕ) (q : Ref)
    → get (filled sizes g) q ≡ cond (has_reference sizes q) (Some (g q)) None
unfolding filled
get-filled sizes g q =
    let es = all_zeros sizes in
    get_ref (map (λ e. (e.0, g e.0)) es) q
    ∙ found_at-written g es q
    ∙ ap (λ b. cond b (Some (g q)) None)
    (ap is_some (sym (get_ref es q)) ∙ contains_key-cleared sizes q)

some_in : (b : Bool) (n : ℕ) → is_some {T = ℕ} (cond b (Some n) None) ≡ b
some_in true n = refl
some_in false n = refl

pub contains_key-filled : (sizes : Sizes) (g : Ref → ℕ) (q : Ref)
    → contains_key (filled sizes g) q ≡ has_reference sizes q
contains_key-filled sizes g q = ap is_some (get-filled sizes g q)
    ∙ some_in (has_reference sizes q) (g q)

if_there : (b : Bool) (v w : ℕ) → (b ≡ true → v ≡ w)
    → cond {A = Option ℕ} b (Some v) None ≡ cond b (Some w) None
if_there true v w h = ap Some (h refl)
if_there false v w h = refl

-- a map that is given 0 at each reference is a fresh one
pub filled-cleared : (sizes : Sizes) (g : Ref → ℕ) → ((q : Ref) → g q ≡ 0)
    → filled sizes g ≡ cleared sizes
filled-cleared sizes g zero = same_map refs_total exact_refs _ _ (λ q.
    get-filled sizes g q ∙ ap (λ n. cond (has_reference sizes q) (Some n) None) (zero q)
    ∙ sym (get-cleared sizes q))

pub there : (b : Bool) (n : ℕ) → b ≡ true → cond {A = Option ℕ} b (Some n) None ≡ Some n
there true n e = refl
there false n e = absurd cc

-- the number at a reference of the sizes
pub get-filled_there : (sizes : Sizes) (g : Ref → ℕ) (q : Ref) → has_reference sizes q ≡ true
    → get (filled sizes g) q ≡ Some (g q)
get-filled_there sizes g q h = get-filled sizes g q ∙ there (has_reference sizes q) (g q) h

-- to tell references apart
abbrev pub Apart : Ref → Ref → Type 0
Apart q at = q ≡ at → ⊥

pub same_or_apart : (q at : Ref) (P : Type 0) → (q ≡ at → P) → (Apart q at → P) → P
same_or_apart q at P same apart = decide (ref_cmp q at) refl
  where
    decide : (o : Ordering) → ref_cmp q at ≡ o → P
    decide Equal e = same (exact_refs q at e)
    decide Less e = apart (λ is. let tied : ref_cmp at at ≡ Equal =
        tied_itself refs_total at in let less : ref_cmp at at ≡ Less = ap
        (λ r. ref_cmp r at) (sym is) ∙ e in absurd cc)
    decide Greater e = apart (λ is. let tied : ref_cmp at at ≡ Equal =
        tied_itself refs_total at in let less : ref_cmp at at ≡ Greater = ap
        (λ r. ref_cmp r at) (sym is) ∙ e in absurd cc)

-- a map that is given another number at one reference is the map with that number inserted
pub filled-insert : (sizes : Sizes) (g h : Ref → ℕ) (at : Ref) (value : ℕ)
    → has_reference sizes at ≡ true → h at ≡ value
    → ((q : Ref) → has_reference sizes q ≡ true → Apart q at → h q ≡ g q)
    → filled sizes h ≡ insert (filled sizes g) at value
filled-insert sizes g h at value has here others = same_map refs_total exact_refs _ _ (λ q.
    same_or_apart q at (get (filled sizes h) q ≡ get (insert (filled sizes g) at value) q)
    (λ is. ap (get (filled sizes h)) is ∙ get-filled_there sizes h at has ∙ ap Some here
    ∙ sym (get-insert_same (filled sizes g) at value)
    ∙ ap (get (insert (filled sizes g) at value)) (sym is))
    (λ apart. get-filled sizes h q ∙ if_there (has_reference sizes q) (h q) (g q)
    (λ there. others q there apart) ∙ sym (get-filled sizes g q)
    ∙ sym (get-insert_other (filled sizes g) at value q (λ is. apart (sym is)))))

-- a reference of the sizes has a number from 1 to their count
pub in_sizes : (sizes : Sizes) (q : Ref) → has_reference sizes q ≡ true
    → (1 ≤ q.number) × (q.number ≤ count_of sizes q.kind)
in_sizes sizes q h =
    let parts = and_parts (nat_le 1 q.number) (nat_le q.number (count_of sizes q.kind)) h in
    (leb-true _ _ parts.0, leb-true _ _ parts.1)

part_there : (b c : Bool) (v w : ℕ) → (b ≡ true → (c ≡ true) × (v ≡ w))
    → cond {A = Option ℕ} b (Some v) None ≡ cond b (cond c (Some w) None) None
part_there true true v w h = ap Some (h refl).1
part_there true false v w h = let c = (h refl).0 in absurd cc
part_there false c v w h = refl

-- a map that is given the numbers of a larger one is the part of that
pub filled-part : (sizes more : Sizes) (g h : Ref → ℕ) (m : Contents) → m ≡ filled sizes g
    → (other : Contents) (new : Ref → ℕ) → other ≡ filled more h
    → ((q : Ref) → has_reference sizes q ≡ true → (has_reference more q ≡ true) × (new q ≡ h q))
    → filled sizes new ≡ part_within m other
filled-part sizes more g h m is other new other_is same = same_map refs_total exact_refs _ _ (λ q.
    get-filled sizes new q
    ∙ part_there (has_reference sizes q) (has_reference more q) (new q) (h q) (same q)
    ∙ ap (λ o. cond (has_reference sizes q) o None)
    (sym (get-filled more h q) ∙ ap (λ x. get x q) (sym other_is))
    ∙ ap (λ b. cond b (get other q) None)
    (sym (contains_key-filled sizes g q) ∙ ap (λ x. contains_key x q) (sym is))
    ∙ sym (get-part_at m other q))
