-- A set of references beside a list of them, and a set of numbers beside the labels of cells.
use Rattle.std.specs.Prelude.{◌≡◌, ◌==◌, ◌||◌, ℕ, Bool, List}
use Rattle.std.specs.List.{list_any}
use Rattle.plant_types.specs.declared.reference.Ref.{Ref}
use Rattle.plant_types.specs.declared.element.Element.{Element}
use Rattle.plant_types.specs.declared.element.Element.TheVariants.{Label}
use Rattle.plant_types.specs.declared.network.Cell.{Cell}
use Rattle.plant_types.specs.Checks.{is_same}
use Rattle.plant_types.specs.Standing.{is_label_of, repeats_label}

-- The keys of a set are just the references of a list. This project's own.
abbrev pub HoldsJust : List Ref → List Ref → Type 0
HoldsJust keys coils = (at : Ref) → list_any (is_same at) keys ≡ list_any (is_same at) coils

-- A number is one of these. This project's own.
abbrev pub is_one_of : List ℕ → ℕ → Bool
is_one_of numbers number = list_any (λ other. number == other) numbers

-- The numbers of a set are just those of the LABs among cells. This project's own.
abbrev pub HoldsLabels : List ℕ → List Cell → Type 0
HoldsLabels numbers cells =
    (number : ℕ) → is_one_of numbers number ≡ repeats_label cells (Label number)

-- The numbers of a set are those of another, and that of an element that is a LAB. This project's
-- own.
abbrev pub GainsLabel : List ℕ → List ℕ → Element → Type 0
GainsLabel new old element =
    (number : ℕ) → is_one_of new number ≡ is_one_of old number || is_label_of number element
