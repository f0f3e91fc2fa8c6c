-- Where a subroutine stands: in the last segment, from the network of its LAB on.
use Rattle.std.specs.Prelude.{ℕ, ◌+◌, Bool, false, ◌==◌, if◌then◌else◌, List, [], ◌∷◌, Option, Some}
use Rattle.std.specs.Prelude.{None, is_some}
use Rattle.std.specs.List.{before_first}
use Rattle.plant_types.specs.declared.element.Element.{Element}
use Rattle.plant_types.specs.declared.element.Element.TheVariants.{Label}
use Rattle.plant_types.specs.declared.network.Cell.{Cell}
use Rattle.plant_types.specs.declared.network.Network.{Network}
use Rattle.grid_compile.specs.Cells.{cell_at}

-- The number of a LAB. Modicon Ladder Logic Block Library User Guide.
abbrev pub label_number : Element → Option ℕ
label_number (Label number) = Some number
label_number element = None

-- The number of a network's LAB, which stands in row 1 and column 1. Modicon Ladder Logic Block
-- Library User Guide.
abbrev pub label_of_cell : Option Cell → Option ℕ
label_of_cell None = None
label_of_cell (Some cell) = label_number cell.element

abbrev pub network_label : Network → Option ℕ
network_label network = label_of_cell (cell_at network.cells 1 1)

-- A network has a LAB, and one of this number. This project's own.
abbrev pub is_labelled : Network → Bool
is_labelled network = is_some (network_label network)

abbrev pub is_label_number : ℕ → Option ℕ → Bool
is_label_number number None = false
is_label_number number (Some other) = other == number

abbrev pub has_label_number : ℕ → Network → Bool
has_label_number number network = is_label_number number (network_label network)

-- A subroutine: the number of its first network in the segment, counted from 1, and its networks.
-- This project's own.
pub record Subroutine : Type 0 where
  pub first : ℕ
  pub networks : List Network

-- The subroutine of a number, where one of these networks, which count from a number on, has its
-- LAB. It goes on up to the next network that has a LAB, or the last. Modicon Ladder Logic Block
-- Library User Guide.
unfoldable pub subroutine_from : ℕ → ℕ → List Network → Option Subroutine
subroutine_from label number [] = None
subroutine_from label number (network ∷ networks) =
    if has_label_number label network
    then Some (record { first = number; networks = network ∷ before_first is_labelled networks })
    else subroutine_from label (number + 1) networks

-- The subroutine of a number in these networks of a segment. This project's own.
abbrev pub subroutine_of : List Network → ℕ → Option Subroutine
subroutine_of networks label = subroutine_from label 1 networks
