-- How a cell stands among all cells of its controller.
use Rattle.std.specs.Prelude.{ℕ, Bool, true, false, not, ◌&&◌, ◌==◌, nat_lt, List, [], ◌∷◌, ◌++◌}
use Rattle.std.specs.Prelude.{filter, length, Option, Some, None}
use Rattle.std.specs.List.{list_any, filter_map, flat_map, cons_option}
use Rattle.plant_types.specs.declared.reference.Ref.{Ref}
use Rattle.plant_types.specs.declared.element.Element.{Element}
use Rattle.plant_types.specs.declared.element.Element.TheVariants.{Label, Mstr}
use Rattle.plant_types.specs.declared.network.Cell.{Cell}
use Rattle.plant_types.specs.declared.network.Network.{Network}
use Rattle.plant_types.specs.declared.network.Segment.{Segment}
use Rattle.plant_types.specs.declared.standing.Standing.{Standing}
use Rattle.plant_types.specs.declared.standing.Claim.{Claim}
use Rattle.plant_types.specs.declared.standing.Claim.TheVariants as claim
use Rattle.plant_types.specs.declared.fault.PlantFault.{PlantFault}
use Rattle.plant_types.specs.declared.fault.PlantFault.TheVariants.{BadShape, CoilTwice, TooLarge}
use Rattle.plant_types.specs.Network.{driven_by}
use Rattle.plant_types.specs.Checks.{is_same}
use Rattle.plant_types.specs.FirstFault.{Test, is_label}

-- The cells of networks, and of segments, in their order. This project's own.
abbrev pub cells_of_networks : List Network → List Cell
cells_of_networks networks = flat_map (λ network. network.cells) networks

abbrev pub cells_of_segments : List Segment → List Cell
cells_of_segments segments = flat_map (λ segment. cells_of_networks segment.networks) segments

-- The cells of a controller before a network: those of the segments before its own, and of the
-- networks before it in its own. This project's own.
abbrev pub cells_before : List Segment → List Network → List Cell
cells_before segments networks = cells_of_segments segments ++ cells_of_networks networks

-- The coils that cells drive. Modicon Ladder Logic Block Library User Guide.
abbrev pub coils_in : List Cell → List Ref
coils_in cells = filter_map (λ cell. driven_by cell.element) cells

-- An element drives this coil. Modicon Ladder Logic Block Library User Guide.
abbrev pub drives : Ref → Element → Bool
drives coil element = list_any (is_same coil) (cons_option (driven_by element) [])

-- A coil, where there is one, is one of these. Modicon Ladder Logic Block Library User Guide.
abbrev pub is_driven : List Ref → Option Ref → Bool
is_driven coils None = false
is_driven coils (Some coil) = list_any (is_same coil) coils

-- An element is the LAB of a number. Modicon Ladder Logic Block Library User Guide.
abbrev pub is_label_of : ℕ → Element → Bool
is_label_of number (Label other) = number == other
is_label_of number _ = false

-- A LAB has the number of one of these cells. This project's own.
abbrev pub repeats_label : List Cell → Element → Bool
repeats_label cells (Label number) = list_any (λ cell. is_label_of number cell.element) cells
repeats_label cells _ = false

-- An element has what one cell of a controller alone can have: this label, or this coil. This
-- project's own.
abbrev pub claims : Claim → Element → Bool
claims (claim.Label number) element = is_label_of number element
claims (claim.Coil coil) element = drives coil element

-- One of these cells has it. This project's own.
abbrev pub is_claimed : List Cell → Claim → Bool
is_claimed cells one = list_any (λ cell. claims one cell.element) cells

-- One of the cells of these networks, or of these segments, has it. This project's own.
abbrev pub is_claimed_in_networks : List Network → Claim → Bool
is_claimed_in_networks networks one = list_any (λ network. is_claimed network.cells one) networks

abbrev pub is_claimed_in_segments : List Segment → Claim → Bool
is_claimed_in_segments segments one =
    list_any (λ segment. is_claimed_in_networks segment.networks one) segments

-- An element is a message on Modbus Plus. Modbus Plus Network Planning and Installation Guide.
abbrev pub is_message : Element → Bool
is_message (Mstr control area length) = true
is_message _ = false

-- How many of these cells are messages, and how many a controller can have. This project's own.
abbrev pub message_count : List Cell → ℕ
message_count cells = length (filter (λ cell. is_message cell.element) cells)

abbrev pub message_limit : ℕ
message_limit = 64

-- How an element stands behind all cells of its controller before it: whether it is a LAB outside
-- the last segment, repeats the number of a LAB, drives a coil again, or is a message too many.
-- This project's own.
abbrev pub standing_of : Bool → List Cell → Element → Standing
standing_of is_last earlier element =
    record {
      is_stray_label = is_label element && not is_last;
      repeats_label = repeats_label earlier element;
      drives_again = is_driven (coils_in earlier) (driven_by element);
      exceeds_messages = is_message element && not (nat_lt (message_count earlier) message_limit);
    }

-- The tests of how a cell stands, in their order. This project's own.
abbrev pub standing_tests : Standing → List (Test PlantFault)
standing_tests standing =
    (not standing.is_stray_label, BadShape)
    ∷ (not standing.repeats_label, BadShape)
    ∷ (not standing.drives_again, CoilTwice)
    ∷ (not standing.exceeds_messages, TooLarge)
    ∷ []
