-- Bytes of texts in a range, and tests of the first numbers.
use Rattle.std.proofs.Common.{◌≡◌, ℕ, zero, suc, ◌<◌, ◌≤◌, Bool, true, false, cond, ◌&&◌, ◌⊎◌, inl}
use Rattle.std.proofs.Common.{inr, List, [], ◌∷◌, ◌++◌, All, refl, arith}
use Rattle.std.specs.Prelude.{nat_le, ◌==◌, ◌≢◌}
use Rattle.std.specs.List.{list_all, flat_map}
use Rattle.std.proofs.lemmas.Bool.{and_parts, cases_lt}
use Rattle.std.proofs.lemmas.Bool.Decides.{nat_tests}
use Rattle.std.proofs.lemmas.List.Elements.{All-nil, All-cons, All-head, All-tail}
use Rattle.std.proofs.lemmas.List.Concat.{flat_map-cons}

-- a byte from low to high, and bytes that are all such
abbrev pub lies : ℕ → ℕ → ℕ → Bool
lies low high byte = nat_le low byte && nat_le byte high

abbrev pub all_lie : ℕ → ℕ → List ℕ → Bool
all_lie low high bytes = list_all (lies low high) bytes

-- which way a test went
pub chosen : {A : Type 0} (b : Bool) (x y z : A) → cond b x y ≡ z
    → ((b ≡ true) × (x ≡ z)) ⊎ ((b ≡ false) × (y ≡ z))
chosen true x y z e = inl (refl, e)
chosen false x y z e = inr (refl, e)

pub both_true : (a b : Bool) → a ≡ true → b ≡ true → (a && b) ≡ true
both_true true b x y = y
both_true false b x y = x

pub all-append : (p : ℕ → Bool) (xs ys : List ℕ) → list_all p xs ≡ true → list_all p ys ≡ true
    → list_all p (xs ++ ys) ≡ true
all-append p [] ys h k = k
all-append p (x ∷ xs) ys h k =
    let (here, more) = and_parts (p x) (list_all p xs) h in
    both_true (p x) (list_all p (xs ++ ys)) here (all-append p xs ys more k)

pub all-weaker : (p q : ℕ → Bool) → ((b : ℕ) → p b ≡ true → q b ≡ true) → (xs : List ℕ)
    → list_all p xs ≡ true → list_all q xs ≡ true
all-weaker p q weaker [] h = refl
all-weaker p q weaker (x ∷ xs) h =
    let (here, more) = and_parts (p x) (list_all p xs) h in
    both_true (q x) (list_all q xs) (weaker x here) (all-weaker p q weaker xs more)

wider_at : (low high below above b : ℕ) → below ≤ low → high ≤ above → lies low high b ≡ true
    → lies below above b ≡ true
wider_at low high below above b l h lie = grind (arith, nat_tests)

pub wider : (low high below above : ℕ) → below ≤ low → high ≤ above → (xs : List ℕ)
    → all_lie low high xs ≡ true → all_lie below above xs ≡ true
wider low high below above l h xs lie =
    all-weaker (lies low high) (lies below above) (λ b. wider_at low high below above b l h) xs lie

-- a byte outside is none of them
pub outside : (low high at b : ℕ) → ((at < low) ⊎ (high < at)) → lies low high b ≡ true
    → (b == at) ≡ false
outside low high at b (inl below) lie = grind (arith, nat_tests)
outside low high at b (inr above) lie = grind (arith, nat_tests)

no_byte : (low high at b : ℕ) → ((at < low) ⊎ (high < at)) → lies low high b ≡ true → b ≢ at
no_byte low high at b (inl below) lie = grind (arith, nat_tests)
no_byte low high at b (inr above) lie = grind (arith, nat_tests)

pub lacks : (low high at : ℕ) → ((at < low) ⊎ (high < at)) → (xs : List ℕ)
    → all_lie low high xs ≡ true → All (λ b. b ≢ at) xs
lacks low high at out [] h = All-nil (λ b. b ≢ at)
lacks low high at out (x ∷ xs) h =
    let (here, more) = and_parts (lies low high x) (all_lie low high xs) h in
    All-cons (λ b. b ≢ at) x xs (no_byte low high at x out here) (lacks low high at out xs more)

-- texts of a list's elements, one after another
pub all-flat_map : {X : Type 0} (p : ℕ → Bool) (f : X → List ℕ) (P : X → Type 0)
    → ((x : X) → P x → list_all p (f x) ≡ true)
    → (xs : List X) → All P xs → list_all p (flat_map f xs) ≡ true
all-flat_map p f P each [] h = refl
all-flat_map p f P each (x ∷ xs) h =
    rw (flat_map-cons f x xs) (all-append p (f x) (flat_map f xs) (each x (All-head P x xs h))
    (all-flat_map p f P each xs (All-tail P x xs h)))

-- a test of each number below n, which computes
abbrev pub all_below : (ℕ → Bool) → ℕ → Bool
all_below test zero = true
all_below test (suc n) = test n && all_below test n

pub all_below-at : (test : ℕ → Bool) (n k : ℕ) → all_below test n ≡ true → k < n → test k ≡ true
all_below-at test zero k h lt = absurd (omega arith)
all_below-at test (suc n) k h lt =
    let parts = and_parts (test n) (all_below test n) h in
    elim (cases_lt k n) [
      | inl below ↦ all_below-at test n k parts.1 below
      | inr top ↦
          let e : k ≡ n = omega arith in
          rw e parts.0
    ]
