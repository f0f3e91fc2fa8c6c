-- The order rows of a controller. This project's own.
use Rattle.std.specs.Prelude.{codes, ℕ, Bool, not, ◌&&◌, ◌||◌, if◌then◌else◌, List, [], ◌∷◌, Option}
use Rattle.std.specs.Prelude.{Some, None, option_map, option_and_then, Result, Ok}
use Rattle.std.specs.Str.{bytes_eq}
use Rattle.plant_types.specs.declared.reference.Ref.{Ref}
use Rattle.plant_types.specs.declared.drops.IoDrop.{IoDrop}
use Rattle.plant_types.specs.declared.network.Segment.{Segment}
use Rattle.plant_types.specs.declared.plan.OrderRow.{OrderRow}
use Rattle.plant_types.specs.declared.fault.PlantFault.TheVariants.{BadOrder, BadRef}
use Rattle.plant_types.specs.declared.fault.Place.{Place}
use Rattle.plant_types.specs.Fault.{order_place}
use Rattle.plant_types.specs.Sizes.{Sizes}
use Rattle.plant_types.specs.PlanTests.{is_segment, is_subroutines, has_control}
use Rattle.cell_text.specs.Steps.{◌>>=◌, or_fault, unless}
use Rattle.cell_text.specs.Words.{text_words}
use Rattle.cell_text.specs.Numbers.{is_reference_word, spelled_number, reference_of}
use Rattle.traffic_cop.specs.Drops.{drop_named}
use Rattle.controller_tables.specs.declared.owner.Owner.{Owner}
use Rattle.controller_tables.specs.declared.orders.OrderWords.{OrderWords as FoundWords}
use Rattle.plant_tables.specs.Refusals.{Refusal}
use Rattle.plant_tables.specs.InOrder.{each_from}

-- The four words of an order row: the segment, the control, the input drop and the output drop.
pub record OrderWords : Type 0 where
  pub segment : List ℕ
  pub control : List ℕ
  pub input : List ℕ
  pub output : List ℕ

abbrev pub order_words_from : List ℕ → List ℕ → List ℕ → List ℕ → OrderWords
order_words_from segment control input output =
    record { segment = segment; control = control; input = input; output = output }

abbrev pub order_in : FoundWords → OrderWords
order_in found =
    order_words_from found.segment.now found.control.now found.input.now found.output.now

abbrev pub order_words : List (List ℕ) → Option OrderWords
order_words (segment ∷ control ∷ input ∷ output ∷ []) =
    Some (order_words_from segment control input output)
order_words _ = None

-- What the order rows of a controller can name: its map, its segments and its drops.
pub record Nameable : Type 0 where
  pub owner : Owner
  pub segments : List Segment
  pub drops : List IoDrop

abbrev pub nameable : Owner → List Segment → List IoDrop → Nameable
nameable owner segments drops = record { owner = owner; segments = segments; drops = drops }

-- An order row can solve each segment but the one of the subroutines.
abbrev pub is_solved : List Segment → ℕ → Bool
is_solved segments number = is_segment segments number && not (is_subroutines segments number)

abbrev pub one_of : List Segment → ℕ → Option ℕ
one_of segments number = if is_solved segments number then Some number else None

abbrev pub segment_in : List Segment → List ℕ → Option ℕ
segment_in segments word = option_and_then (one_of segments) (spelled_number word)

-- A word that is `-` names nothing.
abbrev pub names_nothing : List ℕ → Bool
names_nothing word = bytes_eq word (codes "-")

-- A control reads where it is `-` or has five digits.
abbrev pub reads_as_control : List ℕ → Bool
reads_as_control word = names_nothing word || is_reference_word word

-- The control of a row is a discrete of the map.
unfoldable pub control_in : Sizes → Place → List ℕ → Result (Option Ref) Refusal
control_in sizes place word =
    if names_nothing word then Ok None
    else do
      at ← or_fault (BadRef, place) (reference_of word)
      held ← unless (has_control sizes (Some at)) (BadRef, place)
      Ok (Some at)

-- A drop of a row is `-`, or the number of one that is there.
abbrev pub drop_number : List IoDrop → ℕ → Option ℕ
drop_number drops number = option_map (λ drop. drop.number) (drop_named drops number)

abbrev pub known_drop : List IoDrop → ℕ → Option (Option ℕ)
known_drop drops number = option_map (λ known. Some known) (drop_number drops number)

abbrev pub drop_of : List IoDrop → List ℕ → Option (Option ℕ)
drop_of drops word =
    if names_nothing word then Some None else option_and_then (known_drop drops) (spelled_number
    word)

-- An order row from its parts.
abbrev pub order_from : ℕ → Option Ref → Option ℕ → Option ℕ → OrderRow
order_from segment control input output =
    record { segment = segment; control = control; input = input; output = output }

-- The order row of a text, counted from 1.
unfoldable pub order_row : Nameable → ℕ → List ℕ → Result OrderRow Refusal
order_row there number text = do
  place ← Ok (order_place there.owner.position number)
  words ← or_fault (BadOrder, place) (order_words (text_words text))
  segment ← or_fault (BadOrder, place) (segment_in there.segments words.segment)
  reads ← unless (reads_as_control words.control) (BadOrder, place)
  input ← or_fault (BadOrder, place) (drop_of there.drops words.input)
  output ← or_fault (BadOrder, place) (drop_of there.drops words.output)
  control ← control_in there.owner.sizes place words.control
  Ok (order_from segment control input output)

-- The order rows of a controller.
abbrev pub orders_of : Nameable → List (List ℕ) → Result (List OrderRow) Refusal
orders_of there texts = each_from (order_row there) 1 texts
