-- The operands that fit the slots of a name are those that its element takes.
use Rattle.std.proofs.Common.{◌≡◌, ℕ, Bool, true, false, ◌&&◌, List, [], ◌∷◌, ◌++◌, refl, ap, ◌∙◌}
use Rattle.std.specs.List.{list_all}
use Rattle.std.proofs.lemmas.Bool.{and_parts}
use lib.Pointwise.{pointwise}
use Rattle.plant_types.specs.declared.element.Operand.{Operand}
use Rattle.plant_types.specs.declared.element.Operand.TheVariants.{Const, At}
use Rattle.plant_types.specs.declared.element.Element.{Element}
use Rattle.plant_types.specs.declared.slot.Slot.{Slot}
use Rattle.plant_types.specs.declared.slot.Slot.TheVariants.{Discrete, Driven, Number, Source}
use Rattle.plant_types.specs.declared.slot.Slot.TheVariants.{Target, Constant}
use Rattle.plant_types.specs.Slots.{slots_of}
use Rattle.plant_types.specs.Elements.{name_of, operands_of, length_of}
use Rattle.plant_types.specs.Operands.{Named, accepts, named_at, named_by, names_of, fits_form}
use Rattle.plant_types.specs.Operands.{fits_value, has_form, has_values, has_kinds}
use Rattle.cell_text.specs.Slots.{takes_kind}
use Rattle.cell_text.specs.Texts.{has_number, has_numbers}

-- a reference is of a kind that a slot takes, and has a number from 1 to 9984
abbrev pub fits_reference : Slot → Operand → Bool
fits_reference slot (Const n) = true
fits_reference slot (At at) = takes_kind slot at.kind && has_number at

-- an operand is such as a slot takes
abbrev pub fits : Slot → Operand → Bool
fits slot operand = (fits_form slot operand && fits_value slot operand)
    && fits_reference slot operand

-- four tests in two orders
and_shuffle : (a b c d : Bool) → (a && b) && (c && d) ≡ (a && c) && (b && d)
and_shuffle false b c d = refl
and_shuffle true true c d = refl
and_shuffle true false true d = refl
and_shuffle true false false d = refl

-- two tests of each pair are one test, and another
pointwise-and : {A B : Type 0} (p q : A → B → Bool) (xs : List A) (ys : List B)
    → pointwise (λ x y. p x y && q x y) xs ys ≡ pointwise p xs ys && pointwise q xs ys
pointwise-and p q [] [] = refl
pointwise-and p q [] (y ∷ ys) = refl
pointwise-and p q (x ∷ xs) [] = refl
pointwise-and p q (x ∷ xs) (y ∷ ys) = ap (λ b. (p x y && q x y) && b) (pointwise-and p q xs ys)
    ∙ and_shuffle (p x y) (q x y) (pointwise p xs ys) (pointwise q xs ys)

-- a named reference is of its kind, and has a number from 1 to 9984
abbrev is_named : Named → Bool
is_named named = accepts named.kind named.at.kind && has_number named.at

-- an operand of the form of its slot fits by its reference exactly where what it names is such
reference_is_named : (length : ℕ) (slot : Slot) (operand : Operand) (others : List Named)
    → fits_form slot operand ≡ true
    → fits_reference slot operand && list_all is_named others
    ≡ list_all is_named (named_at length slot operand ++ others)
reference_is_named length Discrete (Const n) others h = refl
reference_is_named length Discrete (At at) others h = refl
reference_is_named length Driven (Const n) others h = refl
reference_is_named length Driven (At at) others h = refl
reference_is_named length (Number run) (Const n) others h = refl
reference_is_named length (Number run) (At at) others h = refl
reference_is_named length (Source run) (Const n) others h = refl
reference_is_named length (Source run) (At at) others h = refl
reference_is_named length (Target run) (Const n) others h = refl
reference_is_named length (Target run) (At at) others h = refl
reference_is_named length (Constant most) (Const n) others h = refl
reference_is_named length (Constant most) (At at) others h = cc

-- so do operands of the forms of their slots
references_are_named : (length : ℕ) (slots : List Slot) (operands : List Operand)
    → pointwise fits_form slots operands ≡ true
    → pointwise fits_reference slots operands ≡ list_all is_named (named_by length slots operands)
references_are_named length [] [] h = refl
references_are_named length [] (operand ∷ operands) h = cc
references_are_named length (slot ∷ slots) [] h = cc
references_are_named length (slot ∷ slots) (operand ∷ operands) h =
    let parts = and_parts (fits_form slot operand) (pointwise fits_form slots operands) h in
    ap (λ b. fits_reference slot operand && b) (references_are_named length slots operands parts.1)
    ∙ reference_is_named length slot operand (named_by length slots operands) parts.0

-- two tests of each item are one test, and another
list_all-and : {A : Type 0} (p q : A → Bool) (xs : List A)
    → list_all (λ x. p x && q x) xs ≡ list_all p xs && list_all q xs
list_all-and p q [] = refl
list_all-and p q (x ∷ xs) = ap (λ b. (p x && q x) && b) (list_all-and p q xs)
    ∙ and_shuffle (p x) (q x) (list_all p xs) (list_all q xs)

-- three tests are grouped to the left
and_assoc : (a b c : Bool) → a && (b && c) ≡ (a && b) && c
and_assoc true b c = refl
and_assoc false b c = refl

-- what holds under a test that comes first
under_first : (a b c d : Bool) → (a ≡ true → c ≡ d) → (a && b) && c ≡ (a && b) && d
under_first false b c d h = refl
under_first true b c d h = ap (λ x. b && x) (h refl)

-- the operands of an element fit the slots of its name exactly where the element has them such as
-- it takes
pub pointwise-fits : (element : Element)
    → pointwise fits (slots_of (name_of element)) (operands_of element) ≡ has_form element
    && has_values element && has_kinds element && has_numbers element
pointwise-fits element =
    let slots = slots_of (name_of element) in
    let operands = operands_of element in
    let references : list_all is_named (names_of element)
    ≡ has_kinds element && has_numbers element =
    list_all-and (λ (named : Named). accepts named.kind named.at.kind)
    (λ (named : Named). has_number named.at) (names_of element) in
    pointwise-and (λ slot operand. fits_form slot operand && fits_value slot operand) fits_reference
    slots operands
    ∙ ap (λ b. b && pointwise fits_reference slots operands)
    (pointwise-and fits_form fits_value slots operands)
    ∙ under_first (has_form element) (has_values element) _ _
    (λ h. references_are_named (length_of element) slots operands h ∙ references)
    ∙ and_assoc (has_form element && has_values element) (has_kinds element) (has_numbers element)
