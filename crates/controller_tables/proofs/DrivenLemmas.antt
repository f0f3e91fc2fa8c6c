-- A set of references beside a list of them, and a set of numbers beside the labels of cells.
use Rattle.std.proofs.Common.{◌≡◌, ℕ, Bool, true, false, cond, ◌&&◌, ◌||◌, ◌==◌, List, [], ◌∷◌}
use Rattle.std.proofs.Common.{◌++◌, Option, Some, None, is_some, nat_cmp, refl, sym, ap, ◌∙◌, arith}
use Rattle.std.specs.List.{list_any, cons_option}
use Rattle.std.specs.Ordering.{is_eq, ordering_then}
use Rattle.std.specs.BTreeMap.{is_at}
use Rattle.std.proofs.lemmas.Bool.Decides.{nat_tests}
use Rattle.std.proofs.lemmas.List.Folds.{list_any-append}
use Rattle.std.proofs.lemmas.List.Elements.{filter_map-append}
use Rattle.plant_types.specs.declared.reference.Ref.{Ref}
use Rattle.plant_types.specs.declared.element.Element.TheVariants.{Label}
use Rattle.plant_types.specs.declared.network.Cell.{Cell}
use Rattle.plant_types.specs.contracts.reference.RefOrd.TheImpl as derived
use Rattle.plant_types.specs.Reference.{ref_cmp, rank_of}
use Rattle.plant_types.specs.Network.{driven_by}
use Rattle.plant_types.specs.Checks.{is_same}
use Rattle.plant_types.specs.Standing.{coils_in, is_label_of, repeats_label}
use Rattle.plant_types.proofs.Contents.{found_by_code}
use Rattle.controller_tables.specs.Driven.{GainsLabel, HoldsJust, HoldsLabels, is_one_of}
use Rattle.plant_types.proofs.GridLemmas.{same_symm}

-- two references are one where their kinds and their numbers are
same_then : (a b m n : ℕ) → is_eq (ordering_then (nat_cmp a b) (nat_cmp m n)) ≡ (a == b) && (m == n)
same_then a b m n = grind (arith, nat_tests)

-- it is the same either way
is_same-turned : (at other : Ref) → is_same at other ≡ is_same other at
is_same-turned at other = same_symm (rank_of at.kind) (rank_of other.kind) at.number other.number

-- a test, and whether it finds something
found_is : (b : Bool) → is_some {T = ℕ} (cond b (Some 0) None) ≡ b
found_is true = refl
found_is false = refl

-- the order that the derive makes finds the references that are the same
is_at-same : (at other : Ref) → is_at (derived.cmp-value.it at) other ≡ is_same at other
is_at-same at other =
    sym (found_is (is_at (derived.cmp-value.it at) other))
    ∙ ap is_some (found_by_code ((other, 0) ∷ []) at) ∙ found_is (is_at (ref_cmp at) other)
    ∙ same_then (rank_of at.kind) (rank_of other.kind) at.number other.number

-- the order finds a reference in a list where it is there
list_any-at : (at : Ref) (keys : List Ref)
    → list_any (is_at (derived.cmp-value.it at)) keys ≡ list_any (is_same at) keys
list_any-at at [] = refl
list_any-at at (key ∷ keys) = rw (is_at-same at key, list_any-at at keys) refl

-- what is tested first may as well be tested last
or_last : (here there : Bool) → cond here true there ≡ there || (here || false)
or_last true true = refl
or_last true false = refl
or_last false true = refl
or_last false false = refl

-- one more key is one more reference
pub HoldsJust-gain : (old new : List Ref) (drives : Option Ref) (coil : Ref) → Some coil ≡ drives
    → ((q : Ref) → list_any (is_at (derived.cmp-value.it q)) new
    ≡ cond (is_at (derived.cmp-value.it coil) q) true
    (list_any (is_at (derived.cmp-value.it q)) old))
    → HoldsJust new (old ++ cons_option drives [])
HoldsJust-gain old new drives coil e put = λ at.
    sym (list_any-at at new) ∙ put at
    ∙ rw (is_at-same coil at, list_any-at at old, is_same-turned coil at)
    (or_last (is_same at coil) (list_any (is_same at) old))
    ∙ sym (list_any-append (is_same at) old (coil ∷ []))
    ∙ ap (λ (o : Option Ref). list_any (is_same at) (old ++ cons_option o [])) e

-- the coils of one more cell
pub coils_in-push : (cells : List Cell) (cell : Cell)
    → coils_in (cells ++ cell ∷ []) ≡ coils_in cells ++ cons_option (driven_by cell.element) []
coils_in-push cells cell = filter_map-append (λ (c : Cell). driven_by c.element) cells (cell ∷ [])

-- the keys hold the coils of one more cell
pub HoldsJust-cell : (old new : List Ref) (cells more : List Cell) (cell : Cell)
    (drives : Option Ref) → drives ≡ driven_by cell.element
    → more ≡ cells ++ cell ∷ [] → HoldsJust old (coils_in cells)
    → HoldsJust new (old ++ cons_option drives []) → HoldsJust new (coils_in more)
HoldsJust-cell old new cells more cell drives d m held gained = λ at.
    let one = cons_option (driven_by cell.element) [] in
    gained at ∙ ap (λ (o : Option Ref). list_any (is_same at) (old ++ cons_option o [])) d
    ∙ list_any-append (is_same at) old one
    ∙ rw (held at) (sym (list_any-append (is_same at) (coils_in cells) one))
    ∙ ap (list_any (is_same at)) (sym (ap coils_in m ∙ coils_in-push cells cell))

-- the keys hold the coils of the same cells
pub HoldsJust-same : (keys : List Ref) (cells other : List Cell) → other ≡ cells
    → HoldsJust keys (coils_in cells) → HoldsJust keys (coils_in other)
HoldsJust-same keys cells other e held =
    λ at. held at ∙ ap (λ (c : List Cell). list_any (is_same at) (coils_in c)) (sym e)

-- the order of numbers finds a number that is the same
is_at-number : (number other : ℕ) → is_at (nat_cmp number) other ≡ (number == other)
is_at-number number other = grind (arith, nat_tests)

is_at-turned : (number other : ℕ) → is_at (nat_cmp number) other ≡ (other == number)
is_at-turned number other = grind (arith, nat_tests)

-- the order finds a number in a list where it is there
one_of-at : (number : ℕ) (numbers : List ℕ)
    → list_any (is_at (nat_cmp number)) numbers ≡ is_one_of numbers number
one_of-at number [] = refl
one_of-at number (other ∷ numbers) = rw (is_at-number number other, one_of-at number numbers) refl

-- either of two tests
either_turned : (here there : Bool) → cond here true there ≡ there || here
either_turned true true = refl
either_turned true false = refl
either_turned false true = refl
either_turned false false = refl

one_or_none : (here : Bool) → here || false ≡ here
one_or_none true = refl
one_or_none false = refl

-- one more number is one more LAB
pub GainsLabel-insert : (old new : List ℕ) (number : ℕ)
    → ((q : ℕ) → list_any (is_at (nat_cmp q)) new
    ≡ cond (is_at (nat_cmp number) q) true (list_any (is_at (nat_cmp q)) old))
    → GainsLabel new old (Label number)
GainsLabel-insert old new number put = λ at.
    sym (one_of-at at new) ∙ put at
    ∙ rw (is_at-turned number at, one_of-at at old) (either_turned (at == number) (is_one_of old at))

-- the numbers hold the labels of one more cell
pub HoldsLabels-cell : (old new : List ℕ) (cells more : List Cell) (cell : Cell)
    → more ≡ cells ++ cell ∷ [] → HoldsLabels old cells → GainsLabel new old cell.element
    → HoldsLabels new more
HoldsLabels-cell old new cells more cell m held gained = λ number.
    let test = λ (one : Cell). is_label_of number one.element in
    gained number ∙ ap (λ b. b || is_label_of number cell.element) (held number)
    ∙ ap (λ b. list_any test cells || b) (sym (one_or_none (test cell)))
    ∙ sym (list_any-append test cells (cell ∷ [])) ∙ ap (list_any test) (sym m)

-- the numbers hold the labels of the same cells
pub HoldsLabels-same : (numbers : List ℕ) (cells other : List Cell) → other ≡ cells
    → HoldsLabels numbers cells → HoldsLabels numbers other
HoldsLabels-same numbers cells other e held =
    λ number. held number ∙ ap (λ (c : List Cell). repeats_label c (Label number)) (sym e)
