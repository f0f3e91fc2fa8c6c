-- The operands of an element, slot by slot.
use Rattle.std.proofs.Common.{◌≡◌, ℕ, suc, Bool, true, false, ◌&&◌, List, [], ◌∷◌, length, refl}
use Rattle.std.proofs.Common.{sym, ap, ◌∙◌, ◌≢◌, arith}
use lib.Pointwise.{pointwise}
use Rattle.std.specs.List.{list_all, zip}
use Rattle.std.proofs.lemmas.List.Folds.{list_all-append}
use Rattle.plant_types.specs.declared.element.Operand.{Operand}
use Rattle.plant_types.specs.declared.slot.Slot.{Slot}
use Rattle.plant_types.specs.Operands.{Named, named_at, named_by}

-- what holds of all that operands name holds of what each names in its slot
pub named_by-each : (holds : Named → Bool) (length : ℕ) (slots : List Slot)
    (operands : List Operand)
    → list_all (λ (at : Slot × Operand). list_all holds (named_at length at.0 at.1))
    (zip slots operands) ≡ list_all holds (named_by length slots operands)
named_by-each holds length [] operands = refl
named_by-each holds length (slot ∷ slots) [] = refl
named_by-each holds length (slot ∷ slots) (operand ∷ operands) =
    ap (λ b. list_all holds (named_at length slot operand) && b)
    (named_by-each holds length slots operands)
    ∙ sym (list_all-append holds (named_at length slot operand) (named_by length slots operands))

-- what holds pair by pair holds of each pair of lists that are as long
pub pointwise-same : {A B : Type 0} (fits : A → B → Bool) (xs : List A) (ys : List B)
    → length xs ≡ length ys
    → list_all (λ at. fits at.0 at.1) (zip xs ys) ≡ pointwise fits xs ys
pointwise-same fits [] [] h = refl
pointwise-same fits [] (y ∷ ys) h = absurd (omega arith)
pointwise-same fits (x ∷ xs) [] h = absurd (omega arith)
pointwise-same fits (x ∷ xs) (y ∷ ys) h =
    let rest : length xs ≡ length ys = omega arith in
    ap (λ b. fits x y && b) (pointwise-same fits xs ys rest)

-- one test that fails is enough
and_none : (a : Bool) → false ≡ a && false
and_none true = refl
and_none false = refl

-- it holds of no others
pub pointwise-other : {A B : Type 0} (fits : A → B → Bool) (xs : List A) (ys : List B)
    → length xs ≢ length ys
    → false ≡ pointwise fits xs ys
pointwise-other fits [] [] h = absurd (h refl)
pointwise-other fits [] (y ∷ ys) h = refl
pointwise-other fits (x ∷ xs) [] h = refl
pointwise-other fits (x ∷ xs) (y ∷ ys) h =
    rw (← pointwise-other fits xs ys (λ e. h (ap suc e))) (and_none (fits x y))
