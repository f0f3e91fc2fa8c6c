-- What a controller notes of its panel, as its history has it. All of it is this project's own.
use Rattle.std.specs.Prelude.{◌≡◌, ◌≤◌, ℕ, ◌+◌, Bool, true, if◌then◌else◌, List, [], ◌∷◌, ◌++◌}
use Rattle.std.specs.Prelude.{length, map, Option, Some, None}
use Rattle.plant_types.specs.declared.reference.Ref.{Ref}
use Rattle.plant_types.specs.declared.plan.ControllerPlan.{ControllerPlan}
use Rattle.plant_types.specs.Store.{Contents, value_at}
use Rattle.scan_order.specs.declared.due.ScanStep.{ScanStep}
use Rattle.controller_core.specs.declared.fixed.Fixed.{Fixed}
use Rattle.controller_core.specs.declared.entry.Entry.{Entry}
use Rattle.controller_core.specs.declared.notes.Notes.{Notes}
use Rattle.controller_core.specs.Replay.{ControllerState, apply, replay, start}
use Rattle.controller_core.specs.Event.{step_of}
use Rattle.controller_core.specs.Scans.{closes_scan}

-- The values of these references.
abbrev pub values_of : Contents → List Ref → List ℕ
values_of store panel = map (value_at store) panel

-- What is noted at an event, by the state right after it: the values of the panel's references,
-- if it is the last of its scan.
abbrev pub note_of_step : ControllerPlan → Option ScanStep → ControllerState → List ℕ
note_of_step plan None s = []
note_of_step plan (Some step) s =
    if closes_scan step s.stop then values_of s.solving.map plan.panel else []

-- The values that entries note from a state on.
unfoldable pub noted_from : Fixed → ControllerState → List Entry → List ℕ
noted_from fixed s [] = []
noted_from fixed s (entry ∷ entries) =
    let after = apply fixed s entry in
    note_of_step fixed.plan (step_of entry) after ++ noted_from fixed after entries

-- The values that a history has noted: those of each scan that is over, one after another.
abbrev pub noted_values : Fixed → List Entry → List ℕ
noted_values fixed history = noted_from fixed (start fixed.plan) history

-- What a history has noted: the values, how many scans are gone, and the code with which the
-- controller stopped, which is 0 where it did not.
abbrev pub notes_of : Fixed → List Entry → Notes
notes_of fixed history = record {
  values = noted_values fixed history;
  gone = (replay fixed history).gone;
  stop = (replay fixed history).stop;
}

-- The values are those of the history, with room for those of one scan more where a scan is
-- reserved.
pub record IsPanelNoted (fixed : Fixed) (history : List Entry) (reserved : Bool) (values : List ℕ)
    (capacity : ℕ) : Type 0 where
  pub are : values ≡ noted_values fixed history
  pub room : reserved ≡ true → length values + length fixed.plan.panel ≤ capacity

-- An entry adds what it notes.
abbrev pub EntriesAddTheirNotes : Type 0
EntriesAddTheirNotes = (fixed : Fixed) (front : List Entry) (entry : Entry)
    → noted_values fixed (front ++ entry ∷ []) ≡ noted_values fixed front
    ++ note_of_step fixed.plan (step_of entry) (replay fixed (front ++ entry ∷ []))

-- What is noted is the same however many scans a controller makes.
abbrev pub NotesAskNoScans : Type 0
NotesAskNoScans = (fixed : Fixed) (scans : ℕ) (history : List Entry)
    → notes_of (record fixed { scans = scans }) history ≡ notes_of fixed history
