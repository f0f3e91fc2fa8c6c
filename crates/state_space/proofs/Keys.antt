-- Where a key stands in the list, and the list with a new one.
use Rattle.std.proofs.Common.{◌≡◌, ℕ, zero, suc, List, [], ◌∷◌, ◌++◌, Bool, true, false, cond}
use Rattle.std.proofs.Common.{Some, None, refl, sym, ap, ◌∙◌, eqb, is_some, Vec, Global}
use Rattle.std.specs.Cmp.Lexicographic.{pointwise}
use Rattle.std.specs.Map.{lookup}
use Rattle.std.specs.Prelude.{slice_get}
use Rattle.std.proofs.lemmas.Slice.Eq.{bytes_eq-Decides}
use Rattle.indexmap.specs.IndexMap.{insert_entry}
use Rattle.state_space.specs.declared.exploring.Link.{Link}
use Rattle.state_space.specs.Found.{Entry, key_in}

-- the test of a key
abbrev pub is_key : List ℕ → Vec ℕ Global → Bool
is_key k y = pointwise eqb k y.items

pub same-words : (a b : List ℕ) → pointwise eqb a b ≡ true → a ≡ b
same-words a b = (bytes_eq-Decides a b).0

pub words-same : (a b : List ℕ) → a ≡ b → pointwise eqb a b ≡ true
words-same a b = (bytes_eq-Decides a b).1

-- a key that the list has
pub record IsFound (es : List Entry) (k : List ℕ) : Type 0 where
  pub index : ℕ
  pub entry : Entry
  pub is_there : slice_get es index ≡ Some entry
  pub key : key_in entry ≡ k

found-by : (e : Entry) (es : List Entry) (k : List ℕ) (b : Bool) → is_key k e.0 ≡ b
    → (is_some (lookup (is_key k) es) ≡ true → IsFound es k)
    → is_some (cond b (Some e.1) (lookup (is_key k) es)) ≡ true → IsFound (e ∷ es) k
found-by e es k true same rest h =
    record { index = 0; entry = e; is_there = refl; key = sym (same-words k e.0.items same) }
found-by e es k false other rest h =
    let f = rest h in
    record { index = suc f.index; entry = f.entry; is_there = f.is_there; key = f.key }

pub found : (es : List Entry) (k : List ℕ) → is_some (lookup (is_key k) es) ≡ true → IsFound es k
found [] k h = absurd (let no : false ≡ true = h in cc)
found (e ∷ es) k h = found-by e es k (is_key k e.0) refl (found es k) h

-- no key of the list is this one
abbrev Lacks : List Entry → List ℕ → Type 0
Lacks es k = (i : ℕ) (e : Entry) → slice_get es i ≡ Some e → key_in e ≡ k → ⊥

lacks-by : (x : Entry) (es : List Entry) (k : List ℕ) (b : Bool) → is_key k x.0 ≡ b
    → (is_some (lookup (is_key k) es) ≡ false → Lacks es k)
    → is_some (cond b (Some x.1) (lookup (is_key k) es)) ≡ false → Lacks (x ∷ es) k
lacks-by x es k true is-this rest h i e is same = let no : true ≡ false = h in cc
lacks-by x es k false other rest h zero e is same =
    let first : Some x ≡ Some e = is in
    let is-x : x ≡ e = cc in
    let no : true ≡ false =
    sym (words-same k x.0.items (sym same ∙ ap (λ (y : Entry). key_in y) (sym is-x))) ∙ other in
    cc
lacks-by x es k false other rest h (suc i) e is same = rest h i e is same

pub not-found : (es : List Entry) (k : List ℕ) → is_some (lookup (is_key k) es) ≡ false → (i : ℕ)
    (e : Entry) → slice_get es i ≡ Some e → key_in e ≡ k → ⊥
not-found [] k h i e is same = let no : None ≡ Some e = is in cc
not-found (x ∷ es) k h i e is same =
    lacks-by x es k (is_key k x.0) refl (not-found es k) h i e is same

-- whether two keys are equal
abbrev pub same_key : Vec ℕ Global → Vec ℕ Global → Bool
same_key a b = pointwise eqb a.items b.items

added-by : (x : Entry) (es : List Entry) (key : Vec ℕ Global) (link : Link) (b : Bool)
    → (is_some (lookup (is_key key.items) es) ≡ false
    → insert_entry same_key es key link ≡ es ++ (key, link) ∷ [])
    → is_some (cond b (Some x.1) (lookup (is_key key.items) es)) ≡ false
    → cond b ((x.0, link) ∷ es) (x ∷ insert_entry same_key es key link) ≡ x ∷ (es ++ (key, link) ∷ [])
added-by x es key link true rest h = absurd (let no : true ≡ false = h in cc)
added-by x es key link false rest h = ap (λ (l : List Entry). x ∷ l) (rest h)

-- a key that the list has not goes last
pub added : (es : List Entry) (key : Vec ℕ Global) (link : Link)
    → is_some (lookup (is_key key.items) es) ≡ false
    → insert_entry same_key es key link ≡ es ++ (key, link) ∷ []
added [] key link h = refl
added (x ∷ es) key link h =
    added-by x es key link (is_key key.items x.0) (added es key link) h
