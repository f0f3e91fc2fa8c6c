-- What conducts when a segment is solved: for each network that is solved, the rows that are live at
-- the right border of each of its columns.
-- The rows that were live in a network, as masks. Modicon Ladder Logic Block Library User Guide; the
-- masks are this project's own.
pub use Rattle.ladder_solver.specs.declared.note.NetworkFlow.{NetworkFlow}
use Rattle.std.specs.Prelude.{ℕ, zero, suc, ◌+◌, ◌-◌, ◌==◌, if◌then◌else◌, List, [], ◌∷◌, ◌++◌}
use Rattle.std.specs.Prelude.{Option, Some, None, length, map}
use Rattle.plant_types.specs.declared.element.Element.{Element}
use Rattle.plant_types.specs.declared.element.Element.TheVariants.{Call}
use Rattle.plant_types.specs.declared.network.Cell.{Cell}
use Rattle.plant_types.specs.declared.network.Network.{Network}
use Rattle.plant_types.specs.declared.network.Segment.{Segment}
use Rattle.plant_types.specs.declared.network.Short.{Short}
use Rattle.plant_types.specs.declared.power.NodePower.{NodePower}
use Rattle.plant_types.specs.Operands.{operand_number}
use Rattle.grid_compile.specs.Cells.{cell_at}
use Rattle.ladder_solver.specs.State.{SolveState}
use Rattle.ladder_solver.specs.Flow.{Flow, GoesOn, Skips, Returns, Stopped, Setting, is_going}
use Rattle.ladder_solver.specs.Network.{Power, Site, is_live, inputs_at, place_solved, rows_after}
use Rattle.ladder_solver.specs.Network.{columns_after, network_after}
use Rattle.ladder_solver.specs.Numbers.{networks_of}
use Rattle.ladder_solver.specs.Rows.{mask_of}
use Rattle.ladder_solver.specs.Segment.{call_depth, last_networks, setting_within}
use Rattle.ladder_solver.specs.Subroutine.{Subroutine, subroutine_of}

-- The eleven columns. Modicon Ladder Logic Block Library User Guide.
abbrev pub columns : List ℕ
columns = 1 ∷ 2 ∷ 3 ∷ 4 ∷ 5 ∷ 6 ∷ 7 ∷ 8 ∷ 9 ∷ 10 ∷ 11 ∷ []

-- A network begins in a state with no output on. Modicon Ladder Logic Block Library User Guide.
abbrev pub network_start : SolveState → Power
network_start s = record { state = s; on = []; flow = GoesOn }

-- The power behind so many of its columns. Modicon Ladder Logic Block Library User Guide.
abbrev pub power_behind : Setting → Network → Site → SolveState → ℕ → Power
power_behind setting network site s column =
    columns_after setting network site 1 column (network_start s)

-- The rows that are live at the right border of a column as the network ends, shorts joined; none
-- where the network ended in this column or before it. Modicon Ladder Logic Block Library User Guide.
abbrev pub border_of : Setting → Network → Site → SolveState → ℕ → Option ℕ
border_of setting network site s column =
    let on = (power_behind setting network site s 11).on in
    if is_going (power_behind setting network site s column).flow
    then Some (mask_of (is_live network.shorts on column))
    else None

-- The note of a network that begins in a state. This project's own.
abbrev pub network_note : Setting → Network → Site → SolveState → NetworkFlow
network_note setting network site s =
    record {
      segment = site.segment;
      network = site.network;
      borders = map (border_of setting network site s) columns;
    }

-- The notes of what a call of a number solves from a state. This project's own.
abbrev pub CallNotes : Type 0
CallNotes = ℕ → SolveState → List NetworkFlow

-- JSR calls where it has power; no other element solves a network. Modicon Ladder Logic Block
-- Library User Guide.
abbrev pub element_notes : CallNotes → Element → NodePower → SolveState → List NetworkFlow
element_notes noting (Call number) inputs s =
    if inputs.top then noting (operand_number s.map number) s else []
element_notes noting element inputs s = []

-- The notes of a place: those of its cell, while the solve goes on. This project's own.
abbrev pub place_notes : CallNotes → List Short → ℕ → ℕ → Option Cell → Power → List NetworkFlow
place_notes noting shorts column row None p = []
place_notes noting shorts column row (Some cell) p =
    if is_going p.flow
    then element_notes noting cell.element (inputs_at shorts p.on column row) p.state
    else []

-- The notes of so many rows of a column, from one down, each after those above it. This project's
-- own.
unfoldable pub rows_notes : CallNotes → Setting → Network → Site → ℕ → ℕ → ℕ → Power
    → List NetworkFlow
rows_notes noting setting network site column row zero p = []
rows_notes noting setting network site column row (suc count) p =
    place_notes noting network.shorts column row (cell_at network.cells column row) p
    ++ rows_notes noting setting network site column (row + 1) count
    (place_solved setting network site column row p)

-- The notes of so many columns, from one to the right. This project's own.
unfoldable pub columns_notes : CallNotes → Setting → Network → Site → ℕ → ℕ → Power
    → List NetworkFlow
columns_notes noting setting network site column zero p = []
columns_notes noting setting network site column (suc count) p =
    rows_notes noting setting network site column 1 7 p
    ++ columns_notes noting setting network site (column + 1) count
    (rows_after setting network site column 1 7 p)

-- The notes of a network: those of its subroutines, and then its own, since they end before it.
-- This project's own.
abbrev pub network_notes : CallNotes → Setting → Network → Site → SolveState → List NetworkFlow
network_notes noting setting network site s =
    columns_notes noting setting network site 1 11 (network_start s)
    ++ network_note setting network site s ∷ []

-- The notes of the networks after one that ended. Modicon Ladder Logic Block Library User Guide.
abbrev pub notes_behind : Flow → (ℕ → SolveState → List NetworkFlow) → SolveState
    → List NetworkFlow
notes_behind GoesOn rest s = rest 0 s
notes_behind (Skips zero) rest s = []
notes_behind (Skips (suc more)) rest s = rest more s
notes_behind Returns rest s = []
notes_behind Stopped rest s = []

-- The notes of a network that begins, and of those after it; where the watchdog stops the solve
-- before it, it is not solved. This project's own.
abbrev pub turn_notes : CallNotes → Setting → Network → Site → (ℕ → SolveState → List NetworkFlow)
    → SolveState → List NetworkFlow
turn_notes noting setting network site rest s =
    let begun = record s { left = s.left - 1 } in
    let done = network_after setting network site begun in
    if begun.left == 0
    then []
    else network_notes noting setting network site begun ++ notes_behind done.1 rest done.0

-- The notes of networks that are solved one after another, with their numbers from one on, after so
-- many that are skipped. Modicon Ladder Logic Block Library User Guide.
unfoldable pub networks_notes : CallNotes → Setting → ℕ → ℕ → List Network → ℕ → SolveState
    → List NetworkFlow
networks_notes noting setting segment number [] skipped s = []
networks_notes noting setting segment number (network ∷ networks) (suc skipped) s =
    networks_notes noting setting segment (number + 1) networks skipped s
networks_notes noting setting segment number (network ∷ networks) zero s =
    turn_notes noting setting network (record { segment = segment; network = number })
    (networks_notes noting setting segment (number + 1) networks) s

-- The notes of a subroutine, if there is one. Modicon Ladder Logic Block Library User Guide.
abbrev pub subroutine_notes : CallNotes → Setting → List Segment → Option Subroutine → CallNotes
subroutine_notes noting setting segments None number s = []
subroutine_notes noting setting segments (Some called) number s =
    networks_notes noting setting (length segments) called.first called.networks 0 s

-- The notes of a call where calls can be so many deep. Modicon Ladder Logic Block Library User Guide.
unfoldable pub notes_within : ℕ → List Segment → CallNotes
notes_within zero segments number s = []
notes_within (suc depth) segments number s =
    subroutine_notes (notes_within depth segments) (setting_within depth segments) segments
    (subroutine_of (last_networks segments) number) number s

-- The notes of a segment that is solved from a state: one of each network that is solved, in the
-- order in which they end. This project's own.
abbrev pub segment_notes : List Segment → ℕ → SolveState → List NetworkFlow
segment_notes segments number s =
    networks_notes (notes_within call_depth segments) (setting_within call_depth segments) number 1
    (networks_of segments number) 0 s
