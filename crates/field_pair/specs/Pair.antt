-- Two controllers side by side as a machine. All of it is this project's own.
use Rattle.std.specs.Prelude.{◌≡◌, ◌<◌, ℕ, ◌+◌, Bool, not, List, length, map}
use Rattle.std.specs.List.{AllByRecursion}
use Rattle.std.specs.Cmp.Lexicographic.{pointwise}
use Rattle.std.specs.Prelude.{nat_eq}
use Rattle.plant_types.specs.Checks.{sizes_of}
use Rattle.scan_order.specs.Due.{full_scan}
use Rattle.controller_core.specs.Notes.{values_of}
use Rattle.controller_core.specs.Replay.{ControllerState, start}
use Rattle.field_runs.specs.Scan.{scanned}
use Rattle.key_store.specs.Words.{word_count}
use Rattle.state_space.specs.Reaching.{Reaches}
use Rattle.field_machine.specs.Field.{IsField}
use Rattle.field_machine.specs.Keys.{map_in, IsKeyOf}
use Rattle.field_machine.specs.Work.{IsWorkOf}
use Rattle.side_runs.specs.Beside.{StatePair}
use Rattle.side_runs.specs.Brought.{rows_told, ScanField}
use Rattle.field_pair.specs.declared.pair.Pair.{Pair}
use Rattle.field_pair.specs.declared.pair.PairWork.{PairWork}
use Rattle.field_pair.specs.Choices.{brought_by, choices_of_both, reads_of, ways_of}
use Rattle.field_pair.specs.Exchanged.{field_of}
use Rattle.field_pair.specs.Keys.{IsPairKeyOf, pair_in}
use Rattle.field_pair.specs.Panel.{panel_told}
use Rattle.field_pair.specs.Same.{IsPanelEnd, listed}
use Rattle.field_pair.specs.declared.searching.Apart.{Apart}

-- What a pair consists of: the fields of both, the new one's with the drops of the old one, the
-- exchanges of a scan of both and in how many ways the field can bring their rows, what each of the
-- two reads, how many words the key of an old one's state has, and the panel of both.
pub record IsPair (pair : Pair) : Type 0 where
  pub old_field : IsField pair.old
  pub new_field : IsField pair.new
  pub one_field : pair.new.fixed.plan.drops ≡ pair.old.fixed.plan.drops
  pub choices : pair.choices.items ≡ choices_of_both pair.old.fixed.plan pair.new.fixed.plan
  pub moves : pair.moves ≡ ways_of pair.choices.items
  pub old_reads : pair.old_reads.items ≡ reads_of pair.old.fixed.plan
  pub new_reads : pair.new_reads.items ≡ reads_of pair.new.fixed.plan
  pub size : pair.size
      ≡ 2 + length pair.old.counters.items + word_count (sizes_of pair.old.fixed.plan)
  pub old_panel : pair.panel.items ≡ pair.old.fixed.plan.panel
  pub new_panel : pair.panel.items ≡ pair.new.fixed.plan.panel

-- A work is that of a pair.
pub record FitsPair (pair : Pair) (work : PairWork) : Type 0 where
  pub pair_is : IsPair pair
  pub old_work : IsWorkOf pair.old.fixed.plan work.old_work
  pub new_work : IsWorkOf pair.new.fixed.plan work.new_work

-- A key of a pair of states of a pair, and the pair of states that a key stands for.
abbrev pub IsKeyIn : Pair → StatePair → List ℕ → Type 0
IsKeyIn pair s key =
    IsPairKeyOf pair.old.fixed.plan pair.old.counters.items pair.new.fixed.plan
    pair.new.counters.items s key

abbrev pub states_in : Pair → List ℕ → StatePair
states_in pair key =
    pair_in pair.old.fixed.plan pair.old.counters.items pair.new.fixed.plan
    pair.new.counters.items pair.size key

-- A key of the old one's state, and of the new one's.
abbrev pub IsOldKey : Pair → ControllerState → List ℕ → Type 0
IsOldKey pair s key = IsKeyOf pair.old.fixed.plan pair.old.counters.items s key

abbrev pub IsNewKey : Pair → ControllerState → List ℕ → Type 0
IsNewKey pair s key = IsKeyOf pair.new.fixed.plan pair.new.counters.items s key

-- The values of the panel in the state of a key of the old one, and of the new one.
abbrev pub old_values : Pair → List ℕ → List ℕ
old_values pair key =
    values_of (map_in pair.old.fixed.plan (length pair.old.counters.items) key) pair.panel.items

abbrev pub new_values : Pair → List ℕ → List ℕ
new_values pair key =
    values_of (map_in pair.new.fixed.plan (length pair.new.counters.items) key) pair.panel.items

-- What the field brings in a scan by the number of a move.
abbrev pub field_by : Pair → ℕ → ScanField
field_by pair by = field_of (brought_by pair.choices.items by)

-- The start of both, and the states of the two behind a scan of both from those of a key.
abbrev pub pair_start : Pair → StatePair
pair_start pair =
    record { old = start pair.old.fixed.plan; new = start pair.new.fixed.plan }

abbrev pub old_behind : Pair → ℕ → List ℕ → ControllerState
old_behind pair by key =
    let plan = pair.old.fixed.plan in
    scanned pair.old.fixed (rows_told plan (full_scan plan) (field_by pair by))
    (states_in pair key).old

abbrev pub new_behind : Pair → ℕ → List ℕ → ControllerState
new_behind pair by key =
    let plan = pair.new.fixed.plan in
    scanned pair.new.fixed (rows_told plan (full_scan plan) (field_by pair by))
    (states_in pair key).new

abbrev pub pair_behind : Pair → ℕ → List ℕ → StatePair
pair_behind pair by key =
    record { old = old_behind pair by key; new = new_behind pair by key }

-- The keys of the start, and a move from a key to one of the states behind it.
abbrev pub pair_starts : Pair → List ℕ → Type 0
pair_starts pair key = IsKeyIn pair (pair_start pair) key

abbrev pub pair_leads : Pair → List ℕ → ℕ → List ℕ → Type 0
pair_leads pair from by key = IsKeyIn pair (pair_behind pair by from) key

-- These are moves of a pair.
abbrev pub MayMove : Pair → List ℕ → Type 0
MayMove pair path = AllByRecursion (λ by. by < pair.moves) path

-- What is told of these moves: the exchanges of their scans, and what both panels show in the
-- states of a key to which they lead.
pub record IsApartBy (pair : Pair) (path : List ℕ) (apart : Apart) : Type 0 where
  pub brought : listed apart.brought.items ≡ map (brought_by pair.choices.items) path
  pub key : List ℕ
  pub reaches : Reaches (pair_starts pair) pair.moves (pair_leads pair) path key
  pub old_end : IsPanelEnd pair.panel.items (states_in pair key).old apart.old
  pub new_end : IsPanelEnd pair.panel.items (states_in pair key).new apart.new

-- The panel lines of two states tell something else.
abbrev pub are_apart : Pair → StatePair → Bool
are_apart pair s =
    not (pointwise nat_eq (panel_told pair.panel.items s.old) (panel_told pair.panel.items s.new))
