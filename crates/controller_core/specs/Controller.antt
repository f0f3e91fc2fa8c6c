-- What contracts see of a controller, which histories are legal, and what a step does.
use Rattle.std.specs.Prelude.{◌≡◌, ℕ, ◌==◌, Bool, true, false, ◌&&◌, not, if◌then◌else◌, List, []}
use Rattle.std.specs.Prelude.{◌∷◌, ◌++◌, length, drop, Option, Some, None, Result, Ok, Err}
use Rattle.std.specs.List.{AllByRecursion}
use Rattle.plant_types.specs.declared.plan.ControllerPlan.{ControllerPlan}
use Rattle.plant_types.specs.Store.{Contents}
use Rattle.mstr_block.specs.declared.call.CallId.{CallId}
use Rattle.mstr_block.specs.declared.call.MstrResult.{MstrResult}
use Rattle.mstr_block.specs.Table.{has_untaken, is_taken_out}
use Rattle.modbus_exec.specs.Answer.{answer_of}
use Rattle.scan_order.specs.declared.due.ScanStep.{ScanStep}
use Rattle.controller_core.specs.declared.call.Call.{Call}
use Rattle.controller_core.specs.declared.fixed.Fixed.{Fixed}
use Rattle.controller_core.specs.declared.entry.Entry.{Entry}
use Rattle.controller_core.specs.declared.entry.Entry.TheVariants as entries
use Rattle.controller_core.specs.declared.entry.Maker.{Maker}
use Rattle.controller_core.specs.declared.entry.StepEnd.{StepEnd}
use Rattle.controller_core.specs.declared.entry.StepEnd.TheVariants as ends
use Rattle.controller_core.specs.Calls.{calls_of}
use Rattle.controller_core.specs.Replay.{ControllerState, apply, replay, start, table_of}
use Rattle.controller_core.specs.Event.{entry_of, maker_of, outputs_at, peer_entry, reply_in}
use Rattle.controller_core.specs.Event.{scan_steps}
use Rattle.controller_core.specs.Scans.{all_due, closes_scan}

-- The fixed part, the history, and whether the steps of the scan that runs have their memory.
-- This project's own.
pub record ControllerIs : Type 0 where
  pub fixed : Fixed
  pub history : List Entry
  pub reserved : Bool

-- The fixed part of these. This project's own.
abbrev pub fixed_with : ControllerPlan → ℕ → ℕ → ℕ → Fixed
fixed_with plan scan_time watchdog scans =
    record { plan = plan; scan_time = scan_time; watchdog = watchdog; scans = scans }

-- A controller at its start. This project's own.
abbrev pub at_start : Fixed → ControllerIs
at_start fixed = record { fixed = fixed; history = []; reserved = false }

-- A controller goes on: it has not stopped. This project's own.
abbrev pub GoesOn : ControllerState → Type 0
GoesOn s = s.stop ≡ 0

-- What holds of an entry where it is made: an event of a scan is made where the controller has
-- not stopped; the words of an Output are those of the row's drop. The others are made also where
-- it has stopped: a Collect has all calls that were started and not yet collected, in block order,
-- and at least one; a Peer is made where there is power, and its reply is the answer to its
-- request; an Off is made where there is none; a Finish names a call that was collected and has no
-- result. This project's own.
abbrev pub Fits : Fixed → ControllerState → Entry → Type 0
Fits fixed s (entries.Collect calls) =
    (has_untaken (table_of s) ≡ true) × (calls ≡ calls_of (table_of s))
Fits fixed s (entries.Peer id request reply) =
    (s.powered ≡ true) × (reply ≡ (answer_of request s.solving.map).reply)
Fits fixed s (entries.Off id request) = s.powered ≡ false
Fits fixed s (entries.Finish id result) = is_taken_out (table_of s) id ≡ true
Fits fixed s (entries.Output row words) = GoesOn s × (words ≡ outputs_at fixed s row)
Fits fixed s _ = GoesOn s

-- Each entry fits the state that those before it leave. This project's own.
unfoldable pub EachFits : Fixed → ControllerState → List Entry → Type 0
EachFits fixed s [] = Unit {0}
EachFits fixed s (entry ∷ entries) =
    Fits fixed s entry × EachFits fixed (apply fixed s entry) entries

-- A legal history: its steps are the first of those that are due in all scans, and each of its
-- entries fits. This project's own.
pub record IsLegal (fixed : Fixed) (history : List Entry) : Type 0 where
  pub each : EachFits fixed (start fixed.plan) history
  pub due : (rest : List ScanStep) × (scan_steps history ++ rest ≡ all_due fixed)

-- The state of a controller: the replay of its history. This project's own.
abbrev pub state_of : ControllerIs → ControllerState
state_of v = replay v.fixed v.history

-- The store of a controller. This project's own.
abbrev pub store_of : ControllerIs → Contents
store_of v = (state_of v).solving.map

-- The first of some steps, if there is one. This project's own.
abbrev pub first_step : List ScanStep → Option ScanStep
first_step [] = None
first_step (step ∷ steps) = Some step

-- What is due in all scans after the steps of a history. This project's own.
abbrev pub left_of : Fixed → List Entry → List ScanStep
left_of fixed history = drop (length (scan_steps history)) (all_due fixed)

-- The step that is due: the first that is left of all scans; none in a controller that has
-- stopped. This project's own.
abbrev pub due_step : ControllerIs → Option ScanStep
due_step v = if (state_of v).stop == 0 then first_step (left_of v.fixed v.history) else None

-- The fixed part stays, and the history grows by these entries. This project's own.
abbrev pub grown : ControllerIs → List Entry → Bool → ControllerIs
grown v added reserved =
    record { fixed = v.fixed; history = v.history ++ added; reserved = reserved }

-- The stop code after a step. This project's own.
abbrev pub stop_after : ControllerIs → ScanStep → ℕ
stop_after v step = (apply v.fixed (state_of v) (entry_of v.fixed (state_of v) step)).stop

-- The entry of the step that is due. This project's own.
abbrev pub entry_for : ControllerIs → Option ScanStep → Option Entry
entry_for v None = None
entry_for v (Some step) = Some (entry_of v.fixed (state_of v) step)

abbrev pub due_entry : ControllerIs → Option Entry
due_entry v = entry_for v (due_step v)

-- A controller after the step that is due: its history grows by the entry of that step, and the
-- memory of a scan is kept until its last event or its stop. This project's own.
abbrev pub made : ControllerIs → Option ScanStep → ControllerIs
made v None = v
made v (Some step) =
    grown v (entry_of v.fixed (state_of v) step ∷ [])
    (v.reserved && not (closes_scan step (stop_after v step)))

abbrev pub stepped : ControllerIs → ControllerIs
stepped v = made v (due_step v)

-- What a step answers, by the stop code and the step that is due. This project's own.
abbrev pub answered : ℕ → Option ScanStep → StepEnd
answered stop None = if stop == 0 then ends.Ended else ends.Stopped stop
answered stop (Some step) = ends.Did step

abbrev pub step_end : ControllerIs → StepEnd
step_end v = answered (state_of v).stop (due_step v)

abbrev pub is_none : Option ScanStep → Bool
is_none None = true
is_none (Some step) = false

-- All scans are done, or the controller has stopped. This project's own.
abbrev pub has_ended : ControllerIs → Bool
has_ended v = is_none (due_step v)

-- A controller is without power. This project's own.
abbrev pub is_off : ControllerIs → Bool
is_off v = not (state_of v).powered

-- The reply to a request; none where there is no power. This project's own.
abbrev pub reply_to : ControllerIs → List ℕ → Option (List ℕ)
reply_to v request = reply_in (state_of v) request

-- A controller after it took a request. This project's own.
abbrev pub answering : ControllerIs → CallId → List ℕ → ControllerIs
answering v id request =
    grown v (peer_entry id request (reply_to v request) ∷ []) v.reserved

-- The entries that a step made, by what it answered. This project's own.
abbrev pub step_entries : ControllerIs → StepEnd → List Entry
step_entries v (ends.Did step) = entry_of v.fixed (state_of v) step ∷ []
step_entries v _ = []

-- The entries that taking a request made: one, with the reply that was given, if one was. This
-- project's own.
abbrev pub peer_entries : {E : Type 0} → CallId → List ℕ → Result (Option (List ℕ)) E
    → List Entry
peer_entries id request (Ok reply) = peer_entry id request reply ∷ []
peer_entries id request (Err end) = []

-- A call is there that was started and not yet collected. This project's own.
abbrev pub has_started : ControllerIs → Bool
has_started v = has_untaken (table_of (state_of v))

-- The calls that were started and not yet collected, in block order. This project's own.
abbrev pub uncollected : ControllerIs → List Call
uncollected v = calls_of (table_of (state_of v))

-- The call of a name was collected and has no result. This project's own.
abbrev pub is_out : ControllerIs → CallId → Bool
is_out v id = is_taken_out (table_of (state_of v)) id

-- A controller after its started calls were collected. This project's own.
abbrev pub collecting : ControllerIs → ControllerIs
collecting v = grown v (entries.Collect (uncollected v) ∷ []) v.reserved

-- A controller after a call came to its result. This project's own.
abbrev pub finishing : ControllerIs → CallId → MstrResult → ControllerIs
finishing v id result = grown v (entries.Finish id result ∷ []) v.reserved

-- The entries that collecting and finishing made: one each. This project's own.
abbrev pub collect_entries : {E : Type 0} → Result (List Call) E → List Entry
collect_entries (Ok calls) = entries.Collect calls ∷ []
collect_entries (Err end) = []

abbrev pub finish_entries : {T E : Type 0} → CallId → MstrResult → Result T E → List Entry
finish_entries id outcome (Ok done) = entries.Finish id outcome ∷ []
finish_entries id outcome (Err end) = []

-- Entries of one maker. This project's own.
abbrev pub AreOf : Maker → List Entry → Type 0
AreOf maker added = AllByRecursion (λ entry. maker_of entry ≡ maker) added

-- What each call that may change a controller says of it, whatever it answers: the fixed part
-- stays; the history grows by the entries that it added, each of its maker; and it is legal. This
-- project's own.
pub record ControllerWentOn (maker : Maker) (added : List Entry) (old new : ControllerIs)
    : Type 0 where
  pub fixed : new.fixed ≡ old.fixed
  pub history : new.history ≡ old.history ++ added
  pub made : AreOf maker added
  pub legal : IsLegal new.fixed new.history
