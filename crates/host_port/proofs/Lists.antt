-- Lists that grow at their end, and tests of filtered lists.
use Rattle.std.proofs.Common.{Option, None, ◌≡◌, ◌⊎◌, Bool, true, false, ◌||◌, ◌&&◌, cond, List, []}
use Rattle.std.proofs.Common.{◌∷◌, ◌++◌, Some, length, ℕ, refl, sym}
use Rattle.std.proofs.Common.{ap, subst}
use Rattle.std.proofs.Common.{◌∙◌, inl, inr}
use Rattle.std.proofs.lemmas.Bool.{cases_Bool, or_parts, true≢false}
use Rattle.std.specs.Option.{option_or}
use Rattle.std.specs.List.{filter, find, list_any, slice_get, All, AllByRecursion}
use Rattle.std.proofs.lemmas.Option.{get_or_from_slice_get, slice_get_within}

-- an entry of a list with one more is the last, or stands in the list
pub split_last : {A : Type 0} (xs : List A) (x : A) (before after : List A) (entry : A)
    → xs ++ x ∷ [] ≡ before ++ entry ∷ after
    → ((before ≡ xs) × (entry ≡ x)) ⊎ ((rest : List A) × (xs ≡ before ++ entry ∷ rest))
split_last [] x [] after entry is = inl (refl, cc)
split_last [] x (b ∷ []) after entry is = absurd cc
split_last [] x (b ∷ d ∷ before) after entry is = absurd cc
split_last (y ∷ xs) x [] after entry is =
    let head : y ≡ entry = cc in
    inr (xs, ap (λ e. e ∷ xs) head)
split_last (y ∷ xs) x (b ∷ before) after entry is =
    let head : y ≡ b = cc in
    let tail : xs ++ x ∷ [] ≡ before ++ entry ∷ after = cc in
    elim (split_last xs x before after entry tail) [
      | inl p ↦ inl (ap (λ e. e ∷ before) (sym head) ∙ ap (λ l. y ∷ l) p.0, p.1)
      | inr q ↦ inr (q.0, ap (λ l. y ∷ l) q.1 ∙ ap (λ e. e ∷ (before ++ entry ∷ q.0)) head)
    ]

pub all_append : {A : Type 0} (P : A → Type 0) (xs ys : List A) → AllByRecursion P xs
    → AllByRecursion P ys → AllByRecursion P (xs ++ ys)
all_append P [] ys one other = other
all_append P (x ∷ xs) ys one other = (one.0, all_append P xs ys one.1 other)

pub all_filter : {A : Type 0} (P : A → Type 0) (test : A → Bool) (xs : List A) → AllByRecursion P xs
    → AllByRecursion P (filter test xs)
all_filter P test [] all = tt
all_filter P test (x ∷ xs) all =
    elim (test x) as (λ b. AllByRecursion P (cond b (x ∷ filter test xs) (filter test xs))) [
      | true ↦ (all.0, all_filter P test xs all.1)
      | false ↦ all_filter P test xs all.1
    ]

pub all_weaker : {A : Type 0} (P Q : A → Type 0) → ((x : A) → P x → Q x) → (xs : List A)
    → AllByRecursion P xs → AllByRecursion Q xs
all_weaker P Q weaker [] all = tt
all_weaker P Q weaker (x ∷ xs) all = (weaker x all.0, all_weaker P Q weaker xs all.1)

-- what some item passes, which each has
pub any_has : {A : Type 0} (P : A → Type 0) (Q : Type 0) (test : A → Bool)
    → ((x : A) → P x → test x ≡ true → Q) → (xs : List A)
    → AllByRecursion P xs
    → list_any test xs ≡ true → Q
any_has P Q test gives [] all any = absurd cc
any_has P Q test gives (x ∷ xs) all any = elim (cases_Bool (test x)) [
  | inl is ↦ gives x all.0 is
  | inr is ↦ any_has P Q test gives xs all.1 (ap (λ b. b || list_any test xs) (sym is) ∙ any)
]

-- none passes
pub any_none : {A : Type 0} (P : A → Type 0) (test : A → Bool) → ((x : A) → P x → test x ≡ false)
    → (xs : List A) → AllByRecursion P xs
    → list_any test xs ≡ false
any_none P test fails [] all = refl
any_none P test fails (x ∷ xs) all =
    ap (λ b. b || list_any test xs) (fails x all.0) ∙ any_none P test fails xs all.1

-- two tests that agree where this holds
pub any_same : {A : Type 0} (P : A → Type 0) (one other : A → Bool)
    → ((x : A) → P x → one x ≡ other x) → (xs : List A)
    → AllByRecursion P xs
    → list_any one xs ≡ list_any other xs
any_same P one other same [] all = refl
any_same P one other same (x ∷ xs) all =
    ap (λ b. b || list_any one xs) (same x all.0)
    ∙ ap (λ b. other x || b) (any_same P one other same xs all.1)

-- a test of what is kept
pub any_filter : {A : Type 0} (test keeps : A → Bool) (xs : List A)
    → list_any test (filter keeps xs) ≡ list_any (λ x. keeps x && test x) xs
any_filter test keeps [] = refl
any_filter test keeps (x ∷ xs) =
    elim (keeps x) as (λ b. list_any test (cond b (x ∷ filter keeps xs) (filter keeps xs)) ≡
    ((b && test x) || list_any (λ x. keeps x && test x) xs)) [
      | true ↦ ap (λ b. test x || b) (any_filter test keeps xs)
      | false ↦ any_filter test keeps xs
    ]

-- what each item has, and what a search finds
pub all_same : {A : Type 0} (P : A → Type 0) → ((x : A) → P x) → (xs : List A) → AllByRecursion P xs
all_same P each [] = tt
all_same P each (x ∷ xs) = (each x, all_same P each xs)

pub found : {A : Type 0} (P : A → Type 0) (test : A → Bool) (xs : List A) (x : A)
    → AllByRecursion P xs → find test xs ≡ Some x
    → (test x ≡ true) × P x
found P test [] x all is = absurd cc
found P test (y ∷ xs) x all is = elim (cases_Bool (test y)) [
  | inl passes ↦
      let first : Some y ≡ Some x = sym (ap (λ b. cond b (Some y) (find test xs)) passes) ∙ is in
      let same : y ≡ x = cc in
      (subst (λ z. test z ≡ true) same passes, subst P same all.0)
  | inr fails ↦ found P test xs x all.1 (sym (ap (λ b. cond b (Some y) (find test xs)) fails) ∙ is)
]

-- a test with another one behind it
pub and_true : (b : Bool) → (b && true) ≡ b
and_true true = refl
and_true false = refl

pub and_false : (b : Bool) → (b && false) ≡ false
and_false true = refl
and_false false = refl

pub or_true : (b : Bool) → (b || true) ≡ true
or_true true = refl
or_true false = refl

pub or_false : (b : Bool) → (b || false) ≡ b
or_false true = refl
or_false false = refl

pub any_agree : {A : Type 0} (one other : A → Bool) → ((x : A) → one x ≡ other x) → (xs : List A)
    → list_any one xs ≡ list_any other xs
any_agree one other same xs =
    any_same (λ x. Unit {0}) one other (λ x u. same x) xs (all_same (λ x. Unit {0}) (λ x. tt) xs)

pub any_and : {A : Type 0} (test : A → Bool) (k : Bool) (xs : List A)
    → list_any (λ x. test x && k) xs ≡ (list_any test xs && k)
any_and test true xs = any_agree (λ x. test x && true) test (λ x. and_true (test x)) xs
    ∙ sym (and_true (list_any test xs))
any_and test false xs =
    any_none (λ x. Unit {0}) (λ x. test x && false) (λ x u. and_false (test x)) xs
    (all_same (λ x. Unit {0}) (λ x. tt) xs)
    ∙ sym (and_false (list_any test xs))

-- where none passes, each fails
pub none_passes : {A : Type 0} (test : A → Bool) (xs : List A) → list_any test xs ≡ false
    → AllByRecursion (λ x. test x ≡ false) xs
none_passes test [] is = tt
none_passes test (x ∷ xs) is =
    let both = or_parts (test x) (list_any test xs) is in
    (both.0, none_passes test xs both.1)

pub all_both : {A : Type 0} (P Q : A → Type 0) (xs : List A) → AllByRecursion P xs
    → AllByRecursion Q xs
    → AllByRecursion (λ x. P x × Q x) xs
all_both P Q [] one other = tt
all_both P Q (x ∷ xs) one other = ((one.0, other.0), all_both P Q xs one.1 other.1)

-- the item at a place
pub all_at : {A : Type 0} (P : A → Type 0) (xs : List A) (n : ℕ) (x : A) → All P xs
    → slice_get xs n ≡ Some x → P x
all_at P xs n x all is =
    subst P (get_or_from_slice_get xs n x x is) (all n x (slice_get_within xs n x is))

pub get_behind : {A : Type 0} (xs : List A) (y : A) (ys : List A)
    → slice_get (xs ++ y ∷ ys) (length xs) ≡ Some y
get_behind [] y ys = refl
get_behind (x ∷ xs) y ys = get_behind xs y ys

pub behind : {A : Type 0} (xs ys : List A) (y : A) → slice_get (xs ++ ys) (length xs) ≡ Some y
    → (rest : List A) × (ys ≡ y ∷ rest)
behind [] [] y is = absurd cc
behind [] (z ∷ ys) y is = let same : z ≡ y = cc in (ys, ap (λ e. e ∷ ys) same)
behind (x ∷ xs) ys y is = behind xs ys y is

-- what a search finds
pub find_none : {A : Type 0} (test : A → Bool) (xs : List A) → list_any test xs ≡ false
    → find test xs ≡ None
find_none test [] none = refl
find_none test (x ∷ xs) none =
    let both = or_parts (test x) (list_any test xs) none in
    ap (λ b. cond b (Some x) (find test xs)) both.0 ∙ find_none test xs both.1

pub found_any : {A : Type 0} (other test : A → Bool) (xs : List A) (x : A) → find test xs ≡ Some x
    → other x ≡ true
    → list_any other xs ≡ true
found_any other test [] x is has = absurd cc
found_any other test (y ∷ xs) x is has = elim (cases_Bool (test y)) [
  | inl passes ↦
      let first : Some y ≡ Some x = sym (ap (λ b. cond b (Some y) (find test xs)) passes) ∙ is in
      let same : y ≡ x = cc in
      ap (λ b. b || list_any other xs) (ap other same ∙ has)
  | inr fails ↦
      let rest = found_any other test xs x
      (sym (ap (λ b. cond b (Some y) (find test xs)) fails) ∙ is) has in
      ap (λ b. other y || b) rest ∙ or_true (other y)
]

pub find_filter : {A : Type 0} (test keeps : A → Bool) → ((x : A) → test x ≡ true → keeps x ≡ true)
    → (xs : List A)
    → find test (filter keeps xs) ≡ find test xs
find_filter test keeps stays [] = refl
find_filter test keeps stays (x ∷ xs) = elim (cases_Bool (keeps x)) [
  | inl kept ↦
      ap (λ b. find test (cond b (x ∷ filter keeps xs) (filter keeps xs))) kept
      ∙ ap (λ o. cond (test x) (Some x) o) (find_filter test keeps stays xs)
  | inr dropped ↦
      let fails : test x ≡ false = elim (cases_Bool (test x)) [
        | inl passes ↦ absurd (true≢false (sym (stays x passes) ∙ dropped))
        | inr fails ↦ fails
      ] in
      ap (λ b. find test (cond b (x ∷ filter keeps xs) (filter keeps xs))) dropped
      ∙ find_filter test keeps stays xs
      ∙ ap (λ b. cond b (Some x) (find test xs)) (sym fails)
]

pub or_none : {A : Type 0} (o : Option A) → option_or o None ≡ o
or_none None = refl
or_none (Some x) = refl
