-- Parts of a text, and what is read behind a front.
use Rattle.std.proofs.Common.{◌≡◌, ℕ, zero, suc, ◌+◌, ◌<◌, Bool, true, false, cond, ◌&&◌, ◌⊎◌, inl}
use Rattle.std.proofs.Common.{inr, List, [], ◌∷◌, ◌++◌, length, take, drop, All, refl, sym, ap}
use Rattle.std.proofs.Common.{subst, ◌∙◌, arith, Option, Some, None, Bor, length-append}
use Rattle.std.specs.Prelude.{◌==◌, ◌≢◌, MatchOption, option_map, slice_index}
use Rattle.std.specs.List.{list_all}
use Rattle.std.specs.Str.{bytes_eq}
use Rattle.std.proofs.lemmas.Bool.{and_parts, false≢true}
use Rattle.std.proofs.lemmas.Bool.Decides.{nat_tests}
use Rattle.std.proofs.lemmas.List.Elements.{All-nil, All-cons, All-head, All-tail}
use Rattle.memchr.specs.Find.{NoneBefore, Nowhere, Passes, is_byte}
use Rattle.journal_reading.specs.Reading.{◌>>=◌, cut, behind, read_or}
use Rattle.journal_reading.proofs.Ranges.{chosen, lies, all_lie, outside}

-- the value that was read, and the parts that it was read from
abbrev some : {A : Type 0} → A → Option A
some x = Some x

pub some_is : {A : Type 0} (x y : A) → some x ≡ some y → x ≡ y
some_is x y e = cc

pub bind_some : {A B : Type 0} (o : Option A) (f : A → Option B) (y : B) → (o >>= f) ≡ Some y
    → (x : A) × (o ≡ Some x) × (f x ≡ Some y)
bind_some (Some x) f y e = (x, refl, e)
bind_some None f y e = absurd cc

pub bind_none : {A B : Type 0} (o : Option A) (f : A → B)
    → (o >>= λ x. Some (f x)) ≡ None → o ≡ None
bind_none (Some x) f e = absurd cc
bind_none None f e = refl

pub else_some : {A V : Type 0} (o : Option A) (f : A → Option V) (other : Option V) (y : V)
    → read_or o f other ≡ Some y
    → ((rest : A) × (o ≡ Some rest) × (f rest ≡ Some y)) ⊎ (other ≡ Some y)
else_some (Some rest) f other y e = inl (rest, refl, e)
else_some None f other y e = inr e

pub none_some : {A : Type 0} (P : Type 0) (y : A) → None ≡ some y → P
none_some P y e = absurd cc

-- what stands before and behind the first such byte
same_byte : (b at : ℕ) → (b == at) ≡ true → b ≡ at
same_byte b at e = grind (arith, nat_tests)

other_byte : (b at : ℕ) → (b == at) ≡ false → b ≢ at
other_byte b at e = grind (arith, nat_tests)

pub byte_self : (at : ℕ) → (at == at) ≡ true
byte_self at = grind (arith, nat_tests)

pub record IsCut (at : ℕ) (text : List ℕ) (parts : List ℕ × List ℕ) : Type 0 where
  pub whole : text ≡ parts.0 ++ at ∷ parts.1
  pub none : All (λ b. b ≢ at) parts.0

cut_first : (at b : ℕ) (bs : List ℕ) (parts : List ℕ × List ℕ) → b ≡ at → ([], bs) ≡ parts
    → IsCut at (b ∷ bs) parts
cut_first at b bs parts is e =
    subst (λ (p : List ℕ × List ℕ). IsCut at (b ∷ bs) p) e
    (record { whole = ap (λ (x : ℕ). x ∷ bs) is; none = All-nil (λ b. b ≢ at) })

cut_later : (at b : ℕ) (bs : List ℕ) (r parts : List ℕ × List ℕ) → b ≢ at → IsCut at bs r
    → (b ∷ r.0, r.1) ≡ parts → IsCut at (b ∷ bs) parts
cut_later at b bs r parts apart is e =
    subst (λ (p : List ℕ × List ℕ). IsCut at (b ∷ bs) p) e
    (record {
      whole = ap (λ (xs : List ℕ). b ∷ xs) is.whole;
      none = All-cons (λ b. b ≢ at) b r.0 apart is.none;
    })

pub cut_parts : (at : ℕ) (text : List ℕ) (parts : List ℕ × List ℕ) → cut at text ≡ Some parts
    → IsCut at text parts
unfolding cut
cut_parts at [] parts e = none_some (IsCut at [] parts) parts e
cut_parts at (b ∷ bs) parts e =
    elim (chosen (b == at) (Some ([], bs)) (cut at bs >>= λ p. Some (b ∷ p.0, p.1))
    (Some parts) e) [
      | inl first ↦
          cut_first at b bs parts (same_byte b at first.0) (some_is ([], bs) parts first.1)
      | inr later ↦
          let r = bind_some (cut at bs) (λ p. Some (b ∷ p.0, p.1)) parts later.1 in
          cut_later at b bs r.0 parts (other_byte b at later.0) (cut_parts at bs r.0 r.1)
          (some_is (b ∷ r.0.0, r.0.1) parts r.2)
    ]

pub cut_again : (at : ℕ) (p : ℕ → Bool) → ((b : ℕ) → p b ≡ true → (b == at) ≡ false)
    → (xs ys : List ℕ) → list_all p xs ≡ true
    → cut at (xs ++ at ∷ ys) ≡ Some (xs, ys)
unfolding cut
cut_again at p out [] ys h = rw (byte_self at) refl
cut_again at p out (x ∷ xs) ys h =
    let (here, more) = and_parts (p x) (list_all p xs) h in
    rw (out x here, cut_again at p out xs ys more) refl

-- so it is at a byte outside a range
pub cut_range : (low high at : ℕ) → ((at < low) ⊎ (high < at)) → (xs ys : List ℕ)
    → all_lie low high xs ≡ true → cut at (xs ++ at ∷ ys) ≡ Some (xs, ys)
cut_range low high at out xs ys lie =
    cut_again at (lies low high) (λ b. outside low high at b out) xs ys lie

pub cut_none : (low high at : ℕ) → ((at < low) ⊎ (high < at)) → (xs : List ℕ)
    → all_lie low high xs ≡ true → cut at xs ≡ None
unfolding cut
cut_none low high at out [] lie = refl
cut_none low high at out (x ∷ xs) lie =
    let (here, more) = and_parts (lies low high x) (all_lie low high xs) lie in
    rw (outside low high at x out here, cut_none low high at out xs more) refl

-- the same at bytes that differ
differ : (b at : ℕ) → b ≢ at → (b == at) ≡ false
differ b at apart = grind (arith, nat_tests)

pub cut_line : (at : ℕ) (xs ys : List ℕ) → All (λ b. b ≢ at) xs
    → cut at (xs ++ at ∷ ys) ≡ Some (xs, ys)
unfolding cut
cut_line at [] ys h = rw (byte_self at) refl
cut_line at (x ∷ xs) ys h =
    rw (
      differ x at (All-head (λ b. b ≢ at) x xs h),
      cut_line at xs ys (All-tail (λ b. b ≢ at) x xs h),
    ) refl

-- the rest is shorter
pub shorter : (at : ℕ) (text : List ℕ) (parts : List ℕ × List ℕ) → cut at text ≡ Some parts
    → length parts.1 < length text
shorter at text parts is =
    let whole = ap length (cut_parts at text parts is).whole in
    let sizes = length-append parts.0 (at ∷ parts.1) in
    omega arith

-- where none is, each byte differs
pub cut_lacks : (at : ℕ) (text : List ℕ) → cut at text ≡ None → All (λ b. b ≢ at) text
unfolding cut
cut_lacks at [] e = All-nil (λ b. b ≢ at)
cut_lacks at (x ∷ xs) e =
    elim (chosen (x == at) (Some ([], xs)) (cut at xs >>= λ p. Some (x ∷ p.0, p.1)) None e) [
      | inl first ↦ absurd (cc)
      | inr later ↦ All-cons (λ b. b ≢ at) x xs (other_byte x at later.0)
          (cut_lacks at xs (bind_none (cut at xs) (λ p. (x ∷ p.0, p.1)) later.1))
    ]

-- a front, and what stands behind it
pub behind_parts : (front text rest : List ℕ) → behind front text ≡ Some rest → text ≡ front ++ rest
unfolding behind
behind_parts [] text rest e = some_is text rest e
behind_parts (b ∷ front) [] rest e = none_some ([] ≡ (b ∷ front) ++ rest) rest e
behind_parts (b ∷ front) (x ∷ text) rest e =
    elim (chosen (x == b) (behind front text) None (Some rest) e) [
      | inl same ↦
          let here : x ≡ b = same_byte x b same.0 in
          let more : text ≡ front ++ rest = behind_parts front text rest same.1 in
          cc
      | inr other ↦ none_some (x ∷ text ≡ (b ∷ front) ++ rest) rest other.1
    ]

-- a text is another one
pub text_is : (text other : List ℕ) → bytes_eq text other ≡ true → text ≡ other
text_is [] [] e = refl
text_is [] (y ∷ ys) e = absurd (false≢true e)
text_is (x ∷ xs) [] e = absurd (false≢true e)
text_is (x ∷ xs) (y ∷ ys) e =
    let (here, more) = and_parts (x == y) (bytes_eq xs ys) e in
    let first : x ≡ y = same_byte x y here in
    let rest : xs ≡ ys = text_is xs ys more in
    cc

-- what a search for the first such byte found
untrue : (b : Bool) → (b ≡ true → ⊥) → b ≡ false
untrue true apart = absurd (apart refl)
untrue false apart = refl

first_place : (at : ℕ) (text : List ℕ) (k : ℕ) → k < length text
    → ((j : ℕ) → j < k → (slice_index text j == at) ≡ false)
    → (slice_index text k == at) ≡ true → cut at text ≡ Some (take k text, drop (k + 1) text)
unfolding cut
first_place at [] k within before here = absurd (omega arith)
first_place at (b ∷ bs) zero within before here = rw here refl
first_place at (b ∷ bs) (suc k) within before here =
    let first : (b == at) ≡ false = before 0 (omega arith) in
    let rest = first_place at bs k (omega arith) (λ j h. before (suc j) (omega arith)) here in
    let next : suc k + 1 ≡ suc (k + 1) = omega arith in
    rw (first, rest, next) refl

pub first_cut : (at : ℕ) (text : List ℕ) (k : ℕ)
    → NoneBefore (Passes (is_byte at) text) 0 (length text) k → Passes (is_byte at) text k
    → cut at text ≡ Some (take k text, drop (k + 1) text)
first_cut at text k none here =
    first_place at text k none.high
    (λ j h. untrue (slice_index text j == at) (none.before j (omega arith) h)) here

no_place : (at : ℕ) (text : List ℕ)
    → ((j : ℕ) → j < length text → (slice_index text j == at) ≡ false) → cut at text ≡ None
unfolding cut
no_place at [] none = refl
no_place at (b ∷ bs) none =
    rw (none 0 (omega arith), no_place at bs (λ j h. none (suc j) (omega arith))) refl

pub no_cut : (at : ℕ) (text : List ℕ) → Nowhere (Passes (is_byte at) text) 0 (length text)
    → cut at text ≡ None
no_cut at text none =
    no_place at text (λ j h. untrue (slice_index text j == at) (none j (omega arith) h))

-- what stands behind a front, where it stands there, and that nothing does where it doesn't
pub behind_front : (front text : List ℕ) → bytes_eq (take (length front) text) front ≡ true
    → behind front text ≡ Some (drop (length front) text)
unfolding behind
behind_front [] text same = refl
behind_front (b ∷ front) [] same = absurd (false≢true same)
behind_front (b ∷ front) (x ∷ text) same =
    let (here, more) = and_parts (x == b) (bytes_eq (take (length front) text) front) same in
    rw here (behind_front front text more)

later : (b c : Bool) (o : Option (List ℕ)) → (c ≡ false → o ≡ None) → (b && c) ≡ false
    → cond b o None ≡ None
later true c o none other = none other
later false c o none other = refl

pub not_behind : (front text : List ℕ) → bytes_eq (take (length front) text) front ≡ false
    → behind front text ≡ None
unfolding behind
not_behind [] text other = absurd (false≢true (sym other))
not_behind (b ∷ front) [] other = refl
not_behind (b ∷ front) (x ∷ text) other =
    later (x == b) (bytes_eq (take (length front) text) front) (behind front text)
    (not_behind front text) other

pub stripped : (front text : List ℕ) (r : Option (Bor (List ℕ)))
    → MatchOption r (bytes_eq (take (length front) text) front ≡ false)
    (λ x. (bytes_eq (take (length front) text) front ≡ true) × (x.now ≡ drop (length front) text)
    × (length x.now + length front ≡ length text))
    → option_map (λ x. x.now) r ≡ behind front text
stripped front text (Some x) found = ap Some found.1 ∙ sym (behind_front front text found.0)
stripped front text None none = sym (not_behind front text none)
