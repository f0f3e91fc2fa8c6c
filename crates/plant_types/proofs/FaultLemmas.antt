-- The first test that does not hold, among tests that stand one after another.
use Rattle.std.proofs.Common.{◌≡◌, ℕ, ◌+◌, ◌<◌, ◌≤◌, true, false, List, [], ◌∷◌, ◌++◌, length, take}
use Rattle.std.proofs.Common.{drop, get_or, Ok, Err, refl, sym, ap, ◌∙◌, append_assoc}
use Rattle.std.proofs.lemmas.List.{append-nil, take_more, take-append-drop, take_all}
use Rattle.plant_types.specs.FirstFault.{Test, first_failed, tests_behind, tests_of_each}

-- where all hold, the first that fails is among those behind
pub first_failed-held : {F : Type 0} (xs ys : List (Test F)) → first_failed xs ≡ Ok tt
    → first_failed (xs ++ ys) ≡ first_failed ys
first_failed-held [] ys h = refl
first_failed-held ((true, f) ∷ xs) ys h = first_failed-held xs ys h
first_failed-held ((false, f) ∷ xs) ys h = absurd (cc)

-- where one fails, the first of all is the first of these
pub first_failed-failed : {F : Type 0} (xs ys : List (Test F)) (f : F) → first_failed xs ≡ Err f
    → first_failed (xs ++ ys) ≡ Err f
first_failed-failed [] ys f h = absurd (cc)
first_failed-failed ((true, g) ∷ xs) ys f h = first_failed-failed xs ys f h
first_failed-failed ((false, g) ∷ xs) ys f h = h

-- the tests of items behind others
pub tests_behind-append : {A F : Type 0} (tests : List A → A → List (Test F))
    (earlier xs ys : List A)
    → tests_behind tests earlier (xs ++ ys)
    ≡ tests_behind tests earlier xs ++ tests_behind tests (earlier ++ xs) ys
unfolding tests_behind
tests_behind-append tests earlier [] ys =
    ap (λ e. tests_behind tests e ys) (sym (append-nil earlier))
tests_behind-append tests earlier (x ∷ xs) ys =
    let more = earlier ++ x ∷ [] in
    ap (λ r. tests earlier x ++ r) (tests_behind-append tests more xs ys
    ∙ ap (λ e. tests_behind tests more xs ++ tests_behind tests e ys)
    (append_assoc earlier (x ∷ []) xs))
    ∙ sym (append_assoc (tests earlier x) (tests_behind tests more xs)
    (tests_behind tests (earlier ++ x ∷ xs) ys))

-- the tests of one more item
pub tests_of_each-push : {A F : Type 0} (tests : List A → A → List (Test F)) (xs : List A) (x : A)
    → tests_of_each tests (xs ++ x ∷ []) ≡ tests_of_each tests xs ++ tests xs x
unfolding tests_behind
tests_of_each-push tests xs x = tests_behind-append tests [] xs (x ∷ [])
    ∙ ap (λ r. tests_of_each tests xs ++ r) (append-nil (tests xs x))

-- the tests of the items up to one
tests_of_each-item : {A F : Type 0} (tests : List A → A → List (Test F)) (xs : List A) (i : ℕ)
    (d : A) → i < length xs
    → first_failed (tests_of_each tests (take i xs)) ≡ Ok tt
    → first_failed (tests_of_each tests (take (i + 1) xs))
    ≡ first_failed (tests (take i xs) (get_or xs i d))
tests_of_each-item tests xs i d within held =
    ap (λ ys. first_failed (tests_of_each tests ys)) (take_more xs i d within)
    ∙ ap first_failed (tests_of_each-push tests (take i xs) (get_or xs i d))
    ∙ first_failed-held (tests_of_each tests (take i xs)) (tests (take i xs) (get_or xs i d)) held

-- one more item that passes
pub items-held : {A F : Type 0} (tests : List A → A → List (Test F)) (xs : List A) (i : ℕ) (d : A)
    → i < length xs
    → first_failed (tests_of_each tests (take i xs)) ≡ Ok tt
    → Ok tt ≡ first_failed (tests (take i xs) (get_or xs i d))
    → first_failed (tests_of_each tests (take (i + 1) xs)) ≡ Ok tt
items-held tests xs i d within held here = tests_of_each-item tests xs i d within held ∙ sym here

-- the first item that fails
pub items-failed : {A F : Type 0} (tests : List A → A → List (Test F)) (xs : List A) (i : ℕ) (d : A)
    (f : F) → i < length xs
    → first_failed (tests_of_each tests (take i xs)) ≡ Ok tt
    → Err f ≡ first_failed (tests (take i xs) (get_or xs i d))
    → Err f ≡ first_failed (tests_of_each tests xs)
items-failed tests xs i d f within held here =
    let front = tests_of_each-item tests xs i d within held ∙ sym here in
    sym (first_failed-failed (tests_of_each tests (take (i + 1) xs))
    (tests_behind tests (take (i + 1) xs) (drop (i + 1) xs)) f front)
    ∙ ap first_failed (sym (tests_behind-append tests [] (take (i + 1) xs) (drop (i + 1) xs)))
    ∙ ap (λ ys. first_failed (tests_of_each tests ys)) (take-append-drop (i + 1) xs)

-- all items pass
pub items-end : {A F : Type 0} (tests : List A → A → List (Test F)) (xs : List A) (i : ℕ)
    → length xs ≤ i
    → first_failed (tests_of_each tests (take i xs)) ≡ Ok tt
    → Ok tt ≡ first_failed (tests_of_each tests xs)
items-end tests xs i past held =
    sym held ∙ ap (λ ys. first_failed (tests_of_each tests ys)) (take_all i xs past)

-- tests that fail before others
pub parts-failed : {F : Type 0} (xs ys : List (Test F)) (f : F) → Err f ≡ first_failed xs
    → Err f ≡ first_failed (xs ++ ys)
parts-failed xs ys f h = sym (first_failed-failed xs ys f (sym h))

-- tests that hold before others
pub parts-held : {F : Type 0} (xs ys : List (Test F)) → Ok tt ≡ first_failed xs
    → first_failed ys ≡ first_failed (xs ++ ys)
parts-held xs ys h = sym (first_failed-held xs ys (sym h))

-- the same of an item that is known by itself
pub item-held : {A F : Type 0} (tests : List A → A → List (Test F)) (xs : List A) (i : ℕ) (x : A)
    → x ≡ get_or xs i x → i < length xs
    → first_failed (tests_of_each tests (take i xs)) ≡ Ok tt
    → Ok tt ≡ first_failed (tests (take i xs) x)
    → first_failed (tests_of_each tests (take (i + 1) xs)) ≡ Ok tt
item-held tests xs i x is within held here =
    items-held tests xs i x within held (here ∙ ap (λ y. first_failed (tests (take i xs) y)) is)

pub item-failed : {A F : Type 0} (tests : List A → A → List (Test F)) (xs : List A) (i : ℕ) (x : A)
    (f : F) → x ≡ get_or xs i x → i < length xs
    → first_failed (tests_of_each tests (take i xs)) ≡ Ok tt
    → Err f ≡ first_failed (tests (take i xs) x) → Err f ≡ first_failed (tests_of_each tests xs)
item-failed tests xs i x f is within held here =
    items-failed tests xs i x f within held (here ∙ ap (λ y. first_failed (tests (take i xs) y)) is)
