-- Readers that read just what is written.
use Rattle.std.proofs.Common.{◌≡◌, ℕ, ◌<◌, ◌≤◌, Bool, true, false, ◌⊎◌, inl, inr, ◌&&◌, ◌||◌, List}
use Rattle.std.proofs.Common.{[], ◌∷◌, ◌++◌, Option, Some, refl, sym, ap, subst, ◌∙◌, arith}
use Rattle.std.specs.Prelude.{nat_le, nat_lt}
use Rattle.std.specs.List.{AllByRecursion}
use Rattle.std.proofs.lemmas.Bool.{and_parts}
use Rattle.std.proofs.lemmas.Bool.Decides.{nat_tests}
use Rattle.journal_reading.specs.Reading.{◌>>=◌, Form, behind, cut, read_first, read_as, read_pair}
use Rattle.journal_reading.proofs.Ranges.{lies, all_lie, all-append, wider}
use Rattle.journal_reading.proofs.Cuts.{some_is, bind_some, else_some, cut_parts, cut_range}
use Rattle.journal_reading.proofs.Cuts.{behind_parts}

-- what is read is the text of what it gives, and such a text is read; its bytes lie in a range
pub record IsField {A : Type 0} (read : List ℕ → Option A) (text : A → List ℕ) (fits : A → Type 0)
    (low high : ℕ) : Type 0 where
  pub takes : (bytes : List ℕ) (x : A) → read bytes ≡ Some x → (bytes ≡ text x) × fits x
  pub again : (x : A) → fits x → read (text x) ≡ Some x
  pub lie : (x : A) → fits x → all_lie low high (text x) ≡ true

-- tests of ranges, which compute
abbrev pub is_out : ℕ → ℕ → ℕ → Bool
is_out low high at = nat_lt at low || nat_lt high at

abbrev pub is_in : ℕ → ℕ → ℕ → ℕ → Bool
is_in low high below above = nat_le below low && nat_le high above

one_of : (l h : Bool) {P Q : Type 0} → (l ≡ true → P) → (h ≡ true → Q) → (l || h) ≡ true → P ⊎ Q
one_of true h passed apart e = inl (passed refl)
one_of false h passed apart e = inr (apart e)

lt_of : (m n : ℕ) → nat_lt m n ≡ true → m < n
lt_of m n e = grind (arith, nat_tests)

le_of : (m n : ℕ) → nat_le m n ≡ true → m ≤ n
le_of m n e = grind (arith, nat_tests)

pub out_of : (low high at : ℕ) → is_out low high at ≡ true → (at < low) ⊎ (high < at)
out_of low high at e =
    one_of (nat_lt at low) (nat_lt high at) (λ h. lt_of at low h) (λ h. lt_of high at h) e

in_of : (low high below above : ℕ) → is_in low high below above ≡ true
    → (below ≤ low) × (high ≤ above)
in_of low high below above e =
    let (l, h) = and_parts (nat_le below low) (nat_le high above) e in
    (le_of below low l, le_of high above h)

pub widened : (low high below above : ℕ) → is_in low high below above ≡ true → (xs : List ℕ)
    → all_lie low high xs ≡ true → all_lie below above xs ≡ true
widened low high below above e xs lie =
    let range = in_of low high below above e in
    wider low high below above range.0 range.1 xs lie

-- two fields with a byte between them that is not in the first
module _ {A B : Type 0} {first : List ℕ → Option A} {second : List ℕ → Option B} {one : A → List ℕ}
    {other : B → List ℕ}
    {Fits : A → Type 0} {Fit : B → Type 0} {a b c d : ℕ} (at low high : ℕ)
    (left : IsField first one Fits a b) (right : IsField second other Fit c d) where
  two_take : (bytes : List ℕ) (x : A × B) → read_pair first second at bytes ≡ Some x
      → (bytes ≡ one x.0 ++ at ∷ other x.1) × (Fits x.0 × Fit x.1)
  two_take bytes x e =
      let p = bind_some (cut at bytes)
      (λ parts. first parts.0 >>= λ y. second parts.1 >>= λ z. Some (y, z)) x e in
      let q = bind_some (first p.0.0) (λ y. second p.0.1 >>= λ z. Some (y, z)) x p.2 in
      let r = bind_some (second p.0.1) (λ z. Some (q.0, z)) x q.2 in
      let parts = cut_parts at bytes p.0 p.1 in
      let l = left.takes p.0.0 q.0 q.1 in
      let k = right.takes p.0.1 r.0 r.1 in
      let whole : bytes ≡ one q.0 ++ at ∷ other r.0 =
      parts.whole ∙ ap (λ (t : List ℕ). t ++ at ∷ p.0.1) l.0
      ∙ ap (λ (t : List ℕ). one q.0 ++ at ∷ t) k.0 in
      subst (λ (y : A × B). (bytes ≡ one y.0 ++ at ∷ other y.1) × (Fits y.0 × Fit y.1))
      (some_is (q.0, r.0) x r.2) (whole, (l.1, k.1))

  two_again : is_out a b at ≡ true → (x : A) (y : B) → Fits x → Fit y
      → read_pair first second at (one x ++ at ∷ other y) ≡ Some (x, y)
  two_again out x y fits fit =
      rw (
        cut_range a b at (out_of a b at out) (one x) (other y) (left.lie x fits),
        left.again x fits,
        right.again y fit,
      ) refl

  pub two_fields : is_out a b at ≡ true → is_in a b low high ≡ true → is_in c d low high ≡ true
      → lies low high at ≡ true
      → IsField (read_pair first second at) (λ x. one x.0 ++ at ∷ other x.1)
      (λ x. Fits x.0 × Fit x.1) low high
  two_fields out early late between = record {
    takes = λ bytes x e. two_take bytes x e;
    again = λ x fits. two_again out x.0 x.1 fits.0 fits.1;
    lie = λ x fits.
        all-append (lies low high) (one x.0) (at ∷ other x.1)
        (widened a b low high early (one x.0) (left.lie x.0 fits.0))
        (rw between (widened c d low high late (other x.1) (right.lie x.1 fits.1)));
  }

-- a field of which something is made, with its inverse
module _ {A V : Type 0} {read : List ℕ → Option A} {text : A → List ℕ} {Fits : A → Type 0}
    {low high : ℕ} (field : IsField read text Fits low high) where
  pub made_field : (make : A → V) (back : V → A) (told : V → List ℕ) (Fit : V → Type 0)
      → ((x : A) → text x ≡ told (make x)) → ((x : A) → Fits x → Fit (make x))
      → ((v : V) → Fit v → Fits (back v)) → ((v : V) → make (back v) ≡ v)
      → IsField (read_as make read) told Fit low high
  made_field make back told Fit same into from round = record {
    takes = λ bytes v e.
        let p = bind_some (read bytes) (λ x. Some (make x)) v e in
        let t = field.takes bytes p.0 p.1 in
        subst (λ (w : V). (bytes ≡ told w) × Fit w) (some_is (make p.0) v p.2)
        (t.0 ∙ same p.0, into p.0 t.1);
    again = λ v fit.
        let text_is : told v ≡ text (back v) = ap told (sym (round v)) ∙ sym (same (back v)) in
        rw (text_is, field.again (back v) (from v fit), round v) refl;
    lie = λ v fit.
        let text_is : told v ≡ text (back v) = ap told (sym (round v)) ∙ sym (same (back v)) in
        rw text_is (field.lie (back v) (from v fit));
  }

-- what lies in a range lies in a wider one
module _ {A : Type 0} {read : List ℕ → Option A} {text : A → List ℕ} {Fits : A → Type 0}
    {low high : ℕ} (field : IsField read text Fits low high) where
  pub lie_in : (under over : ℕ) → is_in low high under over ≡ true → (x : A) → Fits x
      → all_lie under over (text x) ≡ true
  lie_in under over e x fits = widened low high under over e (text x) (field.lie x fits)

-- a kind of a table: what is read behind its front is told so
pub record IsForm {V : Type 0} (told : V → List ℕ) (Fit : V → Type 0) (kind : Form V) : Type 0 where
  pub takes : (bytes : List ℕ) (v : V) → kind.1 bytes ≡ Some v → (kind.0 ++ bytes ≡ told v) × Fit v

module _ {A V : Type 0} {read : List ℕ → Option A} {text : A → List ℕ} {Fits : A → Type 0}
    {low high : ℕ} (field : IsField read text Fits low high)
    (told : V → List ℕ) (Fit : V → Type 0) where
  pub form_of_field : (front : List ℕ) (make : A → V)
      → ((x : A) → Fits x → front ++ text x ≡ told (make x)) → ((x : A) → Fits x → Fit (make x))
      → IsForm told Fit (front, read_as make read)
  form_of_field front make same into = record {
    takes = λ bytes v e.
        let p = bind_some (read bytes) (λ x. Some (make x)) v e in
        let t = field.takes bytes p.0 p.1 in
        subst (λ (w : V). (front ++ bytes ≡ told w) × Fit w) (some_is (make p.0) v p.2)
        (ap (λ (b : List ℕ). front ++ b) t.0 ∙ same p.0 t.1, into p.0 t.1);
  }

module _ {V : Type 0} (told : V → List ℕ) (Fit : V → Type 0) where
  pub first_takes : (kinds : List (Form V)) (other : Option V) (bytes : List ℕ) (v : V)
      → AllByRecursion (IsForm told Fit) kinds → (other ≡ Some v → (bytes ≡ told v) × Fit v)
      → read_first kinds other bytes ≡ Some v → (bytes ≡ told v) × Fit v
  first_takes [] other bytes v each rest e = rest e
  first_takes (kind ∷ kinds) other bytes v each rest e =
      elim (else_some (behind kind.0 bytes) kind.1 (read_first kinds other bytes) v e) [
        | inl found ↦
            let t = each.0.takes found.0 v found.2 in
            (behind_parts kind.0 bytes found.0 found.1 ∙ t.0, t.1)
        | inr more ↦ first_takes kinds other bytes v each.1 rest more
      ]
