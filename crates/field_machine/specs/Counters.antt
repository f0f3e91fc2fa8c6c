-- The counters of a controller, which have the edge bits that change. All of it is this project's
-- own.
use Rattle.std.specs.Prelude.{◌≡◌, ℕ, Bool, ◌&&◌, nat_le, if◌then◌else◌, List, Option, Some, None}
use Rattle.std.specs.Prelude.{slice_get}
use Rattle.std.specs.List.{filter_map}
use Rattle.plant_types.specs.declared.network.Cell.{Cell}
use Rattle.plant_types.specs.declared.network.Segment.{Segment}
use Rattle.alike_states.specs.Counters.{is_counter}
use Rattle.ladder_solver.specs.declared.places.BlockPlace.{BlockPlace}
use Rattle.ladder_solver.specs.Edges.{places_by, HasEdgeBit}

-- A cell is a counter within the eleven columns of seven rows.
abbrev pub counts_here : Cell → Bool
counts_here cell =
    is_counter cell.element && (nat_le 1 cell.column && nat_le cell.column 11
    && (nat_le 1 cell.row && nat_le cell.row 7))

-- The place of a cell of a network of a segment, if it is a counter.
abbrev pub counter_at : ℕ → ℕ → Cell → Option BlockPlace
counter_at segment network cell =
    if counts_here cell
    then Some (record {
      segment = segment;
      network = network;
      column = cell.column;
      row = cell.row;
    })
    else None

-- The places of the counters among the cells of a network, and in all segments.
abbrev pub counters_in : ℕ → ℕ → List Cell → List BlockPlace
counters_in segment network cells = filter_map (counter_at segment network) cells

abbrev pub counters_of : List Segment → List BlockPlace
counters_of segments =
    places_by
    (λ segment of_segment. places_by
    (λ number network. counters_in segment number network.cells) 1 of_segment.networks)
    1 segments

-- A place stands in a list.
abbrev pub Among : List BlockPlace → BlockPlace → Type 0
Among places place = (i : ℕ) × (slice_get places i ≡ Some place)

-- Edge bits are kept for each of these places.
abbrev pub HaveEdgeBits : List ℕ → List BlockPlace → Type 0
HaveEdgeBits counts places = (place : BlockPlace) → Among places place → HasEdgeBit counts place
