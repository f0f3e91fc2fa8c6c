-- Masks, stores and notes, beside what the definitions note while a network is solved. This
-- project's own.
use Rattle.std.specs.Prelude.{◌≡◌, ◌≤◌, ℕ, ◌+◌, ◌++◌, ◌∷◌, [], List, Option, Some, None, nat_le}
use Rattle.std.specs.Prelude.{if◌then◌else◌, slice_index_or, vec_capacity, vec_len, Vec}
use Rattle.std.specs.Prelude.{replicate}
use Rattle.std.specs.List.{slice_range}
use Rattle.std.specs.declared.alloc.Global.{Global}
use Rattle.plant_types.specs.declared.network.Network.{Network}
use Rattle.plant_types.specs.declared.network.Segment.{Segment}
use Rattle.plant_types.specs.declared.network.Short.{Short}
use Rattle.plant_types.specs.declared.power.NodePower.{NodePower}
use Rattle.plant_types.specs.Discretes.{discretes_on}
use Rattle.plant_types.specs.Store.{Contents}
use Rattle.timer_ops.specs.declared.Clock.{Clock}
use Rattle.grid_compile.specs.Cells.{marks_of}
use Rattle.grid_compile.specs.Layout.{grids_of}
use Rattle.mstr_block.specs.Table.{BlockTable}
use Rattle.ladder_solver.specs.declared.layout.Spot.{Spot}
use Rattle.ladder_solver.specs.declared.scan.Scan.{Scan}
use Rattle.ladder_solver.specs.declared.solving.At.{At}
use Rattle.ladder_solver.specs.declared.run.Run.{Run}
use Rattle.ladder_solver.specs.declared.noting.Ended.{Ended}
use Rattle.ladder_solver.specs.declared.places.Placed.{Placed}
use Rattle.ladder_solver.specs.declared.watch.Watch.{Watch}
use Rattle.ladder_solver.specs.Agreement.{AgreesPower, Given, InProgram, solving, spots_after}
use Rattle.ladder_solver.specs.Conditions.{HasGridOperands, HasGridPast}
use Rattle.ladder_solver.specs.Flow.{Setting}
use Rattle.ladder_solver.specs.Layout.{network_spots}
use Rattle.ladder_solver.specs.Network.{Power, inputs_at}
use Rattle.ladder_solver.specs.Noted.{NetworkFlow, border_of, columns_notes, element_notes}
use Rattle.ladder_solver.specs.Noted.{network_notes, network_start, networks_notes}
use Rattle.ladder_solver.specs.Noted.{notes_within, segment_notes, turn_notes}
use Rattle.ladder_solver.specs.Numbers.{mstr_count, networks_of}
use Rattle.ladder_solver.specs.Rows.{reaches_of, three_from}
use Rattle.ladder_solver.specs.State.{LadderState, SolveState, solve_state}

-- The mask of a border, where so many columns were solved to their end.
abbrev pub border_at : List ℕ → ℕ → ℕ → Option ℕ
border_at live solved column =
    if nat_le column solved then Some (slice_index_or live column 0) else None

-- Before the first column all rows are live, and no other border has one that is.
abbrev pub IsStart : List ℕ → Type 0
IsStart live = live ≡ 127 ∷ replicate 11 0

-- There is room for a note of each network that is left to the watchdog, and for so many more.
abbrev pub HasRoom : ℕ → Vec NetworkFlow Global → ℕ → Type 0
HasRoom more notes left = vec_len notes + left + more ≤ vec_capacity notes

-- Each note that was added, but for so many, is of a network that was left to the watchdog; and the
-- room is kept.
pub record Spends (more : ℕ) (old : Vec NetworkFlow Global) (left : ℕ)
    (new : Vec NetworkFlow Global) (left_after : ℕ) : Type 0 where
  pub many : vec_len new + left_after ≤ vec_len old + left + more
  pub room : vec_capacity old ≤ vec_capacity new

-- What a call of a number notes, as many deep as are left.
abbrev pub NotesCall : {R : Type 0} → Given → ℕ → ℕ → (R → Contents) → R → Scan
    → List NetworkFlow → List NetworkFlow → Type 0
NotesCall lent depth number contents ram scan old new =
    InProgram lent.program depth (λ segments setting.
    new ≡ old ++ notes_within depth segments number (solving (contents ram) lent.past scan))

-- One element.
abbrev pub NotesElement : {R : Type 0} → Given → ℕ → Placed → NodePower → (R → Contents) → R → Scan
    → List NetworkFlow → List NetworkFlow → Type 0
NotesElement lent depth placed inputs contents ram scan old new =
    InProgram lent.program depth (λ segments setting.
    new ≡ old ++ element_notes (notes_within depth segments) placed.element inputs
    (solving (contents ram) lent.past scan))

-- One cell, beside masks of the rows that are live.
abbrev pub NotesSpot : {R : Type 0} → Given → Spot → At → List ℕ → (R → Contents) → R → Scan
    → List NetworkFlow → List NetworkFlow → Type 0
NotesSpot lent spot at live contents ram scan old new =
    InProgram lent.program at.depth (λ segments setting. (shorts : List Short) (p : Power) →
    AgreesPower shorts live p → p.state ≡ solving (contents ram) lent.past scan →
    new ≡ old ++ element_notes (notes_within at.depth segments) spot.element
    (inputs_at shorts p.on spot.column spot.row) p.state)

-- The cells of a network, for each network whose they are: their notes, and the masks of its
-- borders.
pub record SpotsNoted (segments : List Segment) (setting : Setting) (network : Network) (at : At)
    (s : SolveState) (live : List ℕ) (ended : Ended) (old new : List NetworkFlow) : Type 0 where
  pub notes : new ≡ old ++ columns_notes (notes_within at.depth segments) setting network at.site
      1 11 (network_start s)
  pub borders : (column : ℕ) → 1 ≤ column → column ≤ 11
      → border_at live ended.columns column ≡ border_of setting network at.site s column

abbrev pub NotesSpots : {R : Type 0} → Given → List Spot → At → List ℕ → (R → Contents) → R
    → Scan → List NetworkFlow → List NetworkFlow → Ended → Type 0
NotesSpots lent spots at live contents ram scan old new ended =
    InProgram lent.program at.depth (λ segments setting. (network : Network) →
    spots ≡ network_spots setting.numbers at.site network →
    SpotsNoted segments setting network at (solving (contents ram) lent.past scan) live ended
    old new)

-- A network.
abbrev pub NotesNetwork : {R : Type 0} → Given → List Spot → At → (R → Contents) → R → Scan
    → List NetworkFlow → List NetworkFlow → Type 0
NotesNetwork lent spots at contents ram scan old new =
    InProgram lent.program at.depth (λ segments setting. (network : Network) →
    spots ≡ network_spots setting.numbers at.site network →
    new ≡ old ++ network_notes (notes_within at.depth segments) setting network at.site
    (solving (contents ram) lent.past scan))

-- The notes behind a network, where the run goes on: so many networks are skipped first.
abbrev pub notes_turned : Option ℕ → (ℕ → SolveState → List NetworkFlow) → SolveState
    → List NetworkFlow
notes_turned None rest s = []
notes_turned (Some skipped) rest s = rest skipped s

-- A network that begins, whatever comes behind it.
abbrev pub NotesTurn : {R : Type 0} → Given → List Spot → At → (R → Contents) → R → R → Scan
    → Scan → List NetworkFlow → List NetworkFlow → Option ℕ → Type 0
NotesTurn lent spots at contents ram left scan after old new skipped =
    InProgram lent.program at.depth (λ segments setting. (network : Network) →
    spots ≡ network_spots setting.numbers at.site network →
    (rest : ℕ → SolveState → List NetworkFlow) →
    old ++ turn_notes (notes_within at.depth segments) setting network at.site rest
    (solving (contents ram) lent.past scan)
    ≡ new ++ notes_turned skipped rest (solving (contents left) lent.past after))

-- Networks of a segment, from one up to another.
abbrev pub NotesRun : {R : Type 0} → Given → Run → (R → Contents) → R → Scan
    → List NetworkFlow → List NetworkFlow → Type 0
NotesRun lent run contents ram scan old new =
    InProgram lent.program run.depth (λ segments setting.
    new ≡ old ++ networks_notes (notes_within run.depth segments) setting run.segment
    (run.span.first + 1)
    (slice_range (networks_of segments run.segment) run.span.first run.span.end) 0
    (solving (contents ram) lent.past scan))

-- There is room for a note of each network that a solve can begin. This project's own.
abbrev pub HasNoteRoom : Vec NetworkFlow Global → Watch → Type 0
HasNoteRoom notes watch = vec_len notes + watch.left ≤ vec_capacity notes

-- A solve of a segment adds the notes that all segments give that have these grids. This project's
-- own.
abbrev pub NotesSegment : LadderState → ℕ → Clock → Contents → Contents → BlockTable → Watch
    → List NetworkFlow → List NetworkFlow → Type 0
NotesSegment ladder segment clock store before bank watch old new =
    (segments : List Segment) → grids_of segments ≡ ladder.grids →
    new ≡ old ++ segment_notes segments segment
    (solve_state store (discretes_on before) ladder.edges bank clock watch.left)
