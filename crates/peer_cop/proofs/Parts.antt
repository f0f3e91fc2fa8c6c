-- What stands before a byte of a text, and after it.
use Rattle.std.proofs.Common.{◌≡◌, ℕ, zero, suc, ◌+◌, ◌<◌, Bool, true, false, List, []}
use Rattle.std.proofs.Common.{◌∷◌, ◌++◌, length, get_or, take, drop, refl, sym, ap, ◌∙◌, arith}
use Rattle.std.proofs.Common.{length-append}
use Rattle.std.specs.Prelude.{◌==◌, not, slice_index}
use Rattle.std.specs.List.{list_all}
use Rattle.std.proofs.lemmas.Bool.{and_parts, false≢true}
use Rattle.std.proofs.lemmas.Bool.Decides.{nat_tests}
use Rattle.std.proofs.Math.Seq.{get_or-append_seam}
use Rattle.memchr.specs.Find.{NoneBefore, Nowhere, Passes, is_byte}

-- a byte is not this one
abbrev pub differs : ℕ → ℕ → Bool
differs end byte = not (byte == end)

pub differs_self : (end : ℕ) → differs end end ≡ false
differs_self end = grind (arith, nat_tests)

-- what stands before and after the first byte that does not pass is one alone
pub same_parts : (p : ℕ → Bool) (end : ℕ) → p end ≡ false → (xs ys more rest : List ℕ)
    → list_all p xs ≡ true → list_all p ys ≡ true → xs ++ end ∷ more ≡ ys ++ end ∷ rest
    → (xs ≡ ys) × (more ≡ rest)
same_parts p end apart [] [] more rest all every same = (refl, cc)
same_parts p end apart [] (y ∷ ys) more rest all every same =
    let first : end ≡ y = cc in
    let passes = and_parts (p y) (list_all p ys) every in
    absurd (false≢true (sym apart ∙ ap p first ∙ passes.0))
same_parts p end apart (x ∷ xs) [] more rest all every same =
    let first : x ≡ end = cc in
    let passes = and_parts (p x) (list_all p xs) all in
    absurd (false≢true (sym apart ∙ ap p (sym first) ∙ passes.0))
same_parts p end apart (x ∷ xs) (y ∷ ys) more rest all every same =
    let first : x ≡ y = cc in
    let later : xs ++ end ∷ more ≡ ys ++ end ∷ rest = cc in
    let passes = and_parts (p x) (list_all p xs) all in
    let others = and_parts (p y) (list_all p ys) every in
    let (front, back) = same_parts p end apart xs ys more rest passes.1 others.1 later in
    let whole : x ∷ xs ≡ y ∷ ys = cc in
    (whole, back)

-- bytes that pass a test differ from one that does not
other : (p : ℕ → Bool) (end byte : ℕ) → p end ≡ false → p byte ≡ true → differs end byte ≡ true
other p end byte apart passes =
    go (byte == end) refl
  where
    same : (byte == end) ≡ true → byte ≡ end
    same e = grind (arith, nat_tests)

    go : (t : Bool) → (byte == end) ≡ t → differs end byte ≡ true
    go true e = absurd (false≢true (sym apart ∙ ap p (sym (same e)) ∙ passes))
    go false e = rw e refl

pub all_differ : (p : ℕ → Bool) (end : ℕ) → p end ≡ false → (xs : List ℕ) → list_all p xs ≡ true
    → list_all (differs end) xs ≡ true
all_differ p end apart [] all = refl
all_differ p end apart (x ∷ xs) all =
    let passes = and_parts (p x) (list_all p xs) all in
    rw (other p end x apart passes.0, all_differ p end apart xs passes.1) refl

-- a text is what stands before a place, the byte there, and what stands after it
at_place : (end : ℕ) (text : List ℕ) (k : ℕ) → k < length text
    → (slice_index text k == end) ≡ true → text ≡ take k text ++ end ∷ drop (k + 1) text
at_place end [] k within here = absurd (omega arith)
at_place end (byte ∷ bytes) zero within here =
    let same : byte ≡ end = grind (arith, nat_tests) in
    ap (λ (b : ℕ). b ∷ bytes) same
at_place end (byte ∷ bytes) (suc k) within here =
    let later = at_place end bytes k (omega arith) here in
    let next : suc k + 1 ≡ suc (k + 1) = omega arith in
    rw next (ap (λ (bs : List ℕ). byte ∷ bs) later)

all_before : (end : ℕ) (text : List ℕ) (k : ℕ) → k < length text
    → ((j : ℕ) → j < k → (slice_index text j == end) ≡ false)
    → list_all (differs end) (take k text) ≡ true
all_before end [] k within before = absurd (omega arith)
all_before end (byte ∷ bytes) zero within before = refl
all_before end (byte ∷ bytes) (suc k) within before =
    let first : (byte == end) ≡ false = before 0 (omega arith) in
    rw (first, all_before end bytes k (omega arith) (λ j h. before (suc j) (omega arith))) refl

untrue : (b : Bool) → (b ≡ true → ⊥) → b ≡ false
untrue true apart = absurd (apart refl)
untrue false apart = refl

-- the first such byte cuts a text in two, the bytes before it differ from it, and where there is
-- none a text has none
pub record IsCutAt (end : ℕ) (text front back : List ℕ) : Type 0 where
  pub whole : text ≡ front ++ end ∷ back
  pub differ : list_all (differs end) front ≡ true

pub first_cut : (end : ℕ) (text : List ℕ) (k : ℕ)
    → NoneBefore (Passes (is_byte end) text) 0 (length text) k → Passes (is_byte end) text k
    → IsCutAt end text (take k text) (drop (k + 1) text)
first_cut end text k none here = record {
  whole = at_place end text k none.high here;
  differ = all_before end text k none.high
      (λ j h. untrue (slice_index text j == end) (none.before j (omega arith) h));
}

self : (end : ℕ) → (end == end) ≡ true
self end = grind (arith, nat_tests)

pub no_cut : (end : ℕ) (text front back : List ℕ)
    → Nowhere (Passes (is_byte end) text) 0 (length text) → text ≡ front ++ end ∷ back → ⊥
no_cut end text front back none whole =
    let size = ap length whole ∙ length-append front (end ∷ back) in
    let here : slice_index text (length front) ≡ end =
    ap (λ (bs : List ℕ). get_or bs (length front) 0) whole
    ∙ get_or-append_seam front end back 0 in
    none (length front) (omega arith) (omega arith)
    (ap (λ (b : ℕ). b == end) here ∙ self end)
