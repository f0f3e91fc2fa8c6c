-- Items that are read pass their tests.
use Rattle.std.proofs.Common.{◌≡◌, ℕ, ◌+◌, ◌==◌, Bool, true, false, List, [], ◌∷◌, ◌++◌, length}
use Rattle.std.proofs.Common.{map, Result, Ok, refl, ap, ◌∙◌, length-append, append_assoc, arith}
use Rattle.std.specs.Prelude.{nat_eq}
use Rattle.std.specs.List.{list_any, AllByRecursion, IsDistinct}
use Rattle.std.proofs.lemmas.Cmp.{nat_eq_equiv}
use Rattle.std.proofs.lemmas.List.{map-append}
use Rattle.std.proofs.lemmas.Map.Keys.{IsDistinct-push}
use Rattle.plant_types.specs.FirstFault.{Test, first_failed, tests_behind, tests_of_each}
use Rattle.plant_types.proofs.FaultLemmas.{first_failed-held, tests_of_each-push}
use Rattle.cell_text.specs.Steps.{◌>>=◌}
use Rattle.cell_text.proofs.StepLemmas.{step-ok}
use Rattle.plant_tables.specs.InOrder.{numbered_from, each_behind, each_of, each_from}
use Rattle.plant_tables.specs.InOrder.{each_passes}
use Rattle.plant_tables.proofs.Common.{ok_value}

-- what each item that is read behind those before it keeps, all of them keep
pub each_behind-keeps : {A B E : Type 0} (Such : List B → Type 0) (read : List B → A → Result B E)
    → ((before : List B) (x : A) (y : B) → read before x ≡ Ok y → Such before
    → Such (before ++ y ∷ []))
    → (xs : List A) (before ys : List B) → Such before
    → each_behind read before xs ≡ Ok ys → Such ys
unfolding each_behind
each_behind-keeps Such read keeps [] before ys such h =
    let same : before ≡ ys = ok_value before ys h in rw (← same) such
each_behind-keeps Such read keeps (x ∷ xs) before ys such h =
    let here = step-ok (read before x) (λ y. each_behind read (before ++ y ∷ []) xs) ys h in
    each_behind-keeps Such read keeps xs (before ++ here.0 ∷ []) ys
    (keeps before x here.0 here.1.0 such) here.1.1

-- what holds of each item and of one more holds of all
pub all-push : {A : Type 0} (P : A → Type 0) (xs : List A) (x : A) → AllByRecursion P xs → P x
    → AllByRecursion P (xs ++ x ∷ [])
all-push P [] x all here = (here, tt)
all-push P (y ∷ ys) x all here = (all.0, all-push P ys x all.1 here)

-- what holds of each item that is read holds of all
pub each_behind-all : {A B E : Type 0} (P : B → Type 0) (read : List B → A → Result B E)
    → ((before : List B) (x : A) (y : B) → read before x ≡ Ok y → P y)
    → (xs : List A) (before ys : List B) → AllByRecursion P before
    → each_behind read before xs ≡ Ok ys → AllByRecursion P ys
each_behind-all P read holds = each_behind-keeps (AllByRecursion P) read
    (λ before x y h all. all-push P before y all (holds before x y h))

-- a test alone
pub one-test : {F : Type 0} (test : Bool) (fault : F) → test ≡ true
    → first_failed ((test, fault) ∷ []) ≡ Ok tt
one-test test fault h = rw h refl

-- tests of one more item
pub tests-push : {B F : Type 0} (tests : List B → B → List (Test F)) (xs : List B) (x : B)
    → first_failed (tests_of_each tests xs) ≡ Ok tt
    → first_failed (tests xs x) ≡ Ok tt → first_failed (tests_of_each tests (xs ++ x ∷ [])) ≡ Ok tt
tests-push tests xs x h here = ap first_failed (tests_of_each-push tests xs x)
    ∙ first_failed-held (tests_of_each tests xs) (tests xs x) h ∙ here

-- items of which each passes behind those before it
pub each_behind-tests : {A B E F : Type 0} (tests : List B → B → List (Test F))
    (read : List B → A → Result B E)
    → ((before : List B) (x : A) (y : B) → read before x ≡ Ok y
    → first_failed (tests before y) ≡ Ok tt)
    → (xs : List A) (ys : List B) → each_behind read [] xs ≡ Ok ys
    → first_failed (tests_of_each tests ys) ≡ Ok tt
unfolding tests_behind
each_behind-tests tests read holds xs ys =
    each_behind-keeps (λ before. first_failed (tests_of_each tests before) ≡ Ok tt) read
    (λ before x y h held. tests-push tests before y held (holds before x y h)) xs [] ys refl

-- each item alone
tests-alone : {A B E F : Type 0} (tests : List B → B → List (Test F)) (read : ℕ → A → Result B E)
    → ((before : List B) (n : ℕ) (x : A) (y : B) → read n x ≡ Ok y
    → first_failed (tests before y) ≡ Ok tt)
    → (xs : List A) (n : ℕ) (before ys : List B) → each_from read n xs ≡ Ok ys
    → first_failed (tests_behind tests before ys) ≡ Ok tt
unfolding tests_behind
tests-alone tests read holds [] n before ys h =
    let same : [] ≡ ys = ok_value [] ys h in rw (← same) refl
tests-alone tests read holds (x ∷ xs) n before ys h =
    let here = step-ok (read n x) (λ y. each_from read (n + 1) xs >>= λ more. Ok (y ∷ more)) ys h in
    let more = step-ok (each_from read (n + 1) xs) (λ more. Ok (here.0 ∷ more)) ys here.1.1 in
    let same : here.0 ∷ more.0 ≡ ys = ok_value (here.0 ∷ more.0) ys more.1.1 in
    let rest = tests-alone tests read holds xs (n + 1) (before ++ here.0 ∷ []) more.0 more.1.0 in
    let both : first_failed (tests before here.0
    ++ tests_behind tests (before ++ here.0 ∷ []) more.0) ≡ Ok tt =
    first_failed-held (tests before here.0) (tests_behind tests (before ++ here.0 ∷ []) more.0)
    (holds before n x here.0 here.1.0) ∙ rest in
    rw (← same) both

pub each_from-tests : {A B E F : Type 0} (tests : List B → B → List (Test F))
    (read : ℕ → A → Result B E)
    → ((before : List B) (n : ℕ) (x : A) (y : B) → read n x ≡ Ok y
    → first_failed (tests before y) ≡ Ok tt)
    → (xs : List A) (n : ℕ) (ys : List B) → each_from read n xs ≡ Ok ys
    → first_failed (tests_of_each tests ys) ≡ Ok tt
each_from-tests tests read holds xs n ys h = tests-alone tests read holds xs n [] ys h

-- what holds of each item that is read holds of all
pub each_from-all : {A B E : Type 0} (P : B → Type 0) (read : ℕ → A → Result B E)
    → ((n : ℕ) (x : A) (y : B) → read n x ≡ Ok y → P y)
    → (xs : List A) (number : ℕ) (ys : List B) → each_from read number xs ≡ Ok ys
    → AllByRecursion P ys
each_from-all P read holds [] number ys h = let same : [] ≡ ys = ok_value [] ys h in rw (← same) tt
each_from-all P read holds (x ∷ xs) number ys h =
    let here = step-ok (read number x)
    (λ y. each_from read (number + 1) xs >>= λ more. Ok (y ∷ more)) ys h in
    let more = step-ok (each_from read (number + 1) xs) (λ more. Ok (here.0 ∷ more)) ys here.1.1 in
    let same : here.0 ∷ more.0 ≡ ys = ok_value (here.0 ∷ more.0) ys more.1.1 in
    let rest = each_from-all P read holds xs (number + 1) more.0 more.1.0 in
    rw (← same) (holds number x here.0 here.1.0, rest)

-- as many items are read as there are
pub each_of-length : {A B E : Type 0} (read : A → Result B E) (xs : List A) (ys : List B)
    → each_of read xs ≡ Ok ys → length ys ≡ length xs
each_of-length read [] ys h = let same : [] ≡ ys = ok_value [] ys h in rw (← same) refl
each_of-length read (x ∷ xs) ys h =
    let here = step-ok (read x) (λ y. each_of read xs >>= λ more. Ok (y ∷ more)) ys h in
    let more = step-ok (each_of read xs) (λ more. Ok (here.0 ∷ more)) ys here.1.1 in
    let same : here.0 ∷ more.0 ≡ ys = ok_value (here.0 ∷ more.0) ys more.1.1 in
    let count : length (here.0 ∷ more.0) ≡ length (x ∷ xs) =
    omega (arith, each_of-length read xs more.0 more.1.0) in
    rw (← same) count

pub each_from-length : {A B E : Type 0} (read : ℕ → A → Result B E) (xs : List A) (n : ℕ)
    (ys : List B) → each_from read n xs ≡ Ok ys → length ys ≡ length xs
each_from-length read [] n ys h = let same : [] ≡ ys = ok_value [] ys h in rw (← same) refl
each_from-length read (x ∷ xs) n ys h =
    let here = step-ok (read n x) (λ y. each_from read (n + 1) xs >>= λ more. Ok (y ∷ more)) ys h in
    let more = step-ok (each_from read (n + 1) xs) (λ more. Ok (here.0 ∷ more)) ys here.1.1 in
    let same : here.0 ∷ more.0 ≡ ys = ok_value (here.0 ∷ more.0) ys more.1.1 in
    let count : length (here.0 ∷ more.0) ≡ length (x ∷ xs) =
    omega (arith, each_from-length read xs (n + 1) more.0 more.1.0) in
    rw (← same) count

with_positions-length : {A : Type 0} (xs : List A) (n : ℕ) → length (numbered_from n xs) ≡ length xs
with_positions-length [] n = refl
with_positions-length (x ∷ xs) n = omega (arith, with_positions-length xs (n + 1))

behind-length : {A B E : Type 0} (read : List B → A → Result B E) (xs : List A) (before ys : List B)
    → each_behind read before xs ≡ Ok ys
    → length ys ≡ length before + length xs
unfolding each_behind
behind-length read [] before ys h =
    let same : before ≡ ys = ok_value before ys h in rw (← same) (omega arith)
behind-length read (x ∷ xs) before ys h =
    let here = step-ok (read before x) (λ y. each_behind read (before ++ y ∷ []) xs) ys h in
    omega (
      arith,
      behind-length read xs (before ++ here.0 ∷ []) ys here.1.1,
      length-append before (here.0 ∷ []),
    )

pub with_positions-count : {A B E : Type 0} (read : List B → ℕ × A → Result B E)
    (xs : List A) (ys : List B)
    → each_behind read [] (numbered_from 1 xs) ≡ Ok ys → length ys ≡ length xs
with_positions-count read xs ys h =
    omega (arith, behind-length read (numbered_from 1 xs) [] ys h, with_positions-length xs 1)

-- what each test of items says, where all of them pass
pub each_passes-all : {A E : Type 0} (P : A → Type 0) (test : ℕ → A → Result (Unit {0}) E)
    → ((n : ℕ) (x : A) → test n x ≡ Ok tt → P x)
    → (xs : List A) (number : ℕ) → each_passes test number xs ≡ Ok tt
    → AllByRecursion P xs
each_passes-all P test holds [] number h = tt
each_passes-all P test holds (x ∷ xs) number h =
    let here = step-ok (test number x) (λ here. each_passes test (number + 1) xs) tt h in
    (holds number x here.1.0, each_passes-all P test holds xs (number + 1) here.1.1)

-- a node that no item has is none of the nodes
pub none-node : {A : Type 0} (node : A → ℕ) (n : ℕ) (xs : List A)
    → list_any (λ x. node x == n) xs ≡ list_any (nat_eq n) (map node xs)
none-node node n [] = refl
none-node node n (x ∷ xs) = rw (nat_eq_equiv.symm (node x) n, none-node node n xs) refl

-- one more item of another node
pub distinct-push : {A : Type 0} (node : A → ℕ) (before : List ℕ) (xs : List A) (x : A)
    → IsDistinct nat_eq (before ++ map node xs)
    → list_any (nat_eq (node x)) (before ++ map node xs) ≡ false
    → IsDistinct nat_eq (before ++ map node (xs ++ x ∷ []))
distinct-push node before xs x h other =
    rw (map-append, ← append_assoc before (map node xs) (node x ∷ []))
    (IsDistinct-push nat_eq_equiv (before ++ map node xs) (node x) h other)
