-- Where each subroutine stands among the grids of a segment.
use Rattle.std.specs.Prelude.{◌≡◌, ℕ, suc, ◌+◌, ◌-◌, ◌≤◌, ◌<◌, List, [], ◌∷◌, ◌++◌}
use Rattle.std.specs.Prelude.{Option, Some, None}
use Rattle.std.specs.Prelude.{is_none, length, map, replicate, slice_set, slice_index_or, IfSome}
use Rattle.std.specs.List.{prefix_len, slice_range, AllByRecursion}
use Rattle.std.specs.Option.{option_map}
use Rattle.plant_types.specs.declared.network.Network.{Network}
use Rattle.plant_types.specs.declared.network.Segment.{Segment}
use Rattle.grid_compile.specs.declared.grid.Op.{Op}
use Rattle.grid_compile.specs.declared.grid.Column.{Column}
use Rattle.grid_compile.specs.declared.grid.Grid.{Grid}
use Rattle.grid_compile.specs.Bounds.{IsGrid}
use Rattle.grid_compile.specs.Layout.{grids_of}
use Rattle.grid_compile.specs.Lists.{op_at}
use Rattle.ladder_solver.specs.declared.layout.Spot.{Spot}
use Rattle.ladder_solver.specs.declared.program.Span.{Span}
use Rattle.ladder_solver.specs.declared.program.Program.TheInside.{Inside}
use Rattle.ladder_solver.specs.Layout.{spots_of}
use Rattle.plant_types.specs.Slots.{label_limit}
use Rattle.plant_types.specs.Standing.{message_limit}
use Rattle.ladder_solver.specs.Numbers.{mstr_count, networks_of}
use Rattle.ladder_solver.specs.Subroutine.{label_number, Subroutine, subroutine_of}

-- The number of a grid's LAB, in row 1 of column 1. Modicon Ladder Logic Block Library User Guide.
abbrev pub label_of_op : Option Op → Option ℕ
label_of_op None = None
label_of_op (Some op) = label_number op.element

abbrev pub label_in_columns : List Column → Option ℕ
label_in_columns [] = None
label_in_columns (laid ∷ columns) = label_of_op (op_at laid.ops 1)

abbrev pub label_in : Grid → Option ℕ
label_in grid = label_in_columns grid.columns

-- Each LAB has a number that is not above the largest. This project's own.
abbrev pub HasLabels : List (List Grid) → Type 0
HasLabels segments =
    AllByRecursion
    (AllByRecursion (λ grid. IfSome (label_in grid) (λ number. number ≤ label_limit))) segments

-- What a program asks of its grids: their form, the numbers of their LABs, and no more MSTR blocks
-- than a controller can have. This project's own.
pub record CanLay (segments : List (List Grid)) : Type 0 where
  pub grids : AllByRecursion (AllByRecursion IsGrid) segments
  pub labels : HasLabels segments
  pub few : mstr_count segments ≤ message_limit

-- The grids of a segment, counted from 1, and of the last. This project's own.
abbrev pub grids_at : List (List Grid) → ℕ → List Grid
grids_at segments number = slice_index_or segments (number - 1) []

abbrev pub last_grids : List (List Grid) → List Grid
last_grids segments = grids_at segments (length segments)

-- The cells of the networks of a segment, counted from 1. This project's own.
abbrev pub spots_at : List (List Grid) → ℕ → List (List Spot)
spots_at segments number = slice_index_or (spots_of segments) (number - 1) []

-- Spans by number, with a place for each number below one. This project's own.
abbrev pub with_room : ℕ → List (Option Span) → List (Option Span)
with_room count spans = spans ++ replicate (count - length spans) None

-- A span is put under a number. This project's own.
abbrev pub put_span : ℕ → Span → List (Option Span) → List (Option Span)
put_span number span spans = slice_set (with_room (number + 1) spans) number (Some span)

-- A span stands under the number of a LAB. This project's own.
abbrev pub with_span : Option ℕ → Span → List (Option Span) → List (Option Span)
with_span None span spans = spans
with_span (Some number) span spans = put_span number span spans

-- The spans of networks that have these LABs or none, and count from a number on: each ends where
-- the next LAB stands, or with the networks. There are as many as the largest number of a LAB
-- asks. This project's own.
unfoldable pub spans_from : ℕ → List (Option ℕ) → List (Option Span)
spans_from first [] = []
spans_from first (label ∷ labels) =
    with_span label (record { first = first; end = suc first + prefix_len is_none labels })
    (spans_from (suc first) labels)

-- The spans of the grids of a segment. This project's own.
abbrev pub spans_of : List Grid → List (Option Span)
spans_of grids = spans_from 0 (map label_in grids)

-- The subroutine of a span. This project's own.
abbrev pub subroutine_in : List Network → Span → Subroutine
subroutine_in networks span =
    record { first = span.first + 1; networks = slice_range networks span.first span.end }

-- The span of a number is where the subroutine stands in the last segment, of each plan that these
-- grids list. This project's own.
abbrev pub IsSpanOf : List (List Grid) → ℕ → Option Span → Type 0
IsSpanOf grids label span =
    (segments : List Segment) → grids_of segments ≡ grids →
    option_map (subroutine_in (networks_of segments (length segments))) span
    ≡ subroutine_of (networks_of segments (length segments)) label

-- A span lies within so many networks. This project's own.
abbrev pub IsWithinNetworks : ℕ → Span → Type 0
IsWithinNetworks count span = (span.first < span.end) × (span.end ≤ count)

-- A program stands for the grids of its segments. This project's own.
abbrev pub program_of : Inside → List (List Grid)
program_of p = p.grids

-- The cells of each network are listed, the MSTR blocks counted, and the span of each subroutine
-- listed. This project's own.
pub record IsProgram (p : Inside) : Type 0 where
  pub can_lay : CanLay p.grids
  pub networks : p.networks ≡ spots_of p.grids
  pub blocks : p.blocks ≡ mstr_count p.grids
  pub spans : p.spans.items ≡ spans_of (last_grids p.grids)
