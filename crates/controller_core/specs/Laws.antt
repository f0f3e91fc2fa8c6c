-- What stays true of the calls of a controller, and what its histories share. This project's own.
use Rattle.std.specs.Prelude.{◌≡◌, ℕ, Bool, true, false, ◌||◌, List, [], ◌∷◌, ◌++◌}
use Rattle.std.specs.List.{list_any, AllByRecursion}
use Rattle.plant_types.specs.Plans.{KeepsPower}
use Rattle.mstr_block.specs.Call.{is_same_call}
use Rattle.mstr_block.specs.declared.call.CallId.{CallId}
use Rattle.mstr_block.specs.declared.call.MstrResult.{MstrResult}
use Rattle.controller_core.specs.declared.call.Call.{Call}
use Rattle.controller_core.specs.declared.entry.Entry.{Entry}
use Rattle.controller_core.specs.declared.entry.Entry.TheVariants as entries
use Rattle.controller_core.specs.declared.entry.Maker.TheVariants as makers
use Rattle.controller_core.specs.declared.fixed.Fixed.{Fixed}
use Rattle.controller_core.specs.Event.{step_of}
use Rattle.controller_core.specs.Panel.{line_of_step, panel_lines}
use Rattle.controller_core.specs.Replay.{replay}
use Rattle.controller_core.specs.Controller.{ControllerIs, answering, collecting, finishing, grown}
use Rattle.controller_core.specs.Controller.{stepped}
use Rattle.controller_core.specs.Controller.{AreOf, IsLegal, has_ended, has_started, is_out}
use Rattle.controller_core.specs.Controller.{uncollected}

-- Where a call is there to collect, there still is one; and a call that is out is still out.
pub record KeepsCallsOf (v w : ControllerIs) : Type 0 where
  pub started : has_started v ≡ true → has_started w ≡ true
  pub out : (id : CallId) → is_out v id ≡ true → is_out w id ≡ true

-- Steps and answers to other nodes keep the calls, and a controller that has ended is still so.
pub record ConditionsStay : Type 0 where
  pub steps : (v : ControllerIs) → KeepsCallsOf v (stepped v)
  pub ended : (v : ControllerIs) → has_ended v ≡ true → has_ended (stepped v) ≡ true
  pub scans : (v : ControllerIs) (added : List Entry) (reserved : Bool) → AreOf makers.Scan added
      → KeepsCallsOf v (grown v added reserved)
  pub peers : (v : ControllerIs) (id : CallId) (request : List ℕ)
      → KeepsCallsOf v (answering v id request)

-- The call of this name is among them.
abbrev pub is_call_among : CallId → List Call → Bool
is_call_among id calls = list_any (λ call. is_same_call call.id id) calls

-- After a Collect nothing is left to collect, and what was collected is out too.
pub record TakesAll (v : ControllerIs) : Type 0 where
  pub started : has_started (collecting v) ≡ false
  pub out : (id : CallId)
      → is_out (collecting v) id ≡ (is_out v id || is_call_among id (uncollected v))

-- After a Finish its call is out no more, and every other call is as it was.
pub record EndsOneCallOf (v w : ControllerIs) (id : CallId) : Type 0 where
  pub started : has_started w ≡ has_started v
  pub gone : is_out w id ≡ false
  pub out : (other : CallId) → is_same_call other id ≡ false → is_out w other ≡ is_out v other

pub record CallsFollow : Type 0 where
  pub collects : (v : ControllerIs) → TakesAll v
  pub finishes : (v : ControllerIs) (id : CallId) (result : MstrResult)
      → EndsOneCallOf v (finishing v id result) id

-- A prefix of a legal history is legal.
abbrev pub FrontsAreLegal : Type 0
FrontsAreLegal = (fixed : Fixed) (front rest : List Entry) → IsLegal fixed (front ++ rest)
    → IsLegal fixed front

-- An entry adds its panel line, if it is the last of its scan.
abbrev pub EntriesAddTheirLines : Type 0
EntriesAddTheirLines = (fixed : Fixed) (front : List Entry) (entry : Entry)
    → panel_lines fixed (front ++ entry ∷ []) ≡ panel_lines fixed front
    ++ line_of_step fixed.plan (step_of entry) (replay fixed (front ++ entry ∷ []))

-- An entry is one of a power failure, or was made where there was no power.
abbrev pub is_of_failure : Entry → Bool
is_of_failure entries.Fail = true
is_of_failure entries.Dark = true
is_of_failure (entries.Off id request) = true
is_of_failure _ = false

-- Power never failed in a history: it is on after it, and no entry is of a failure.
pub record HasKeptPower (fixed : Fixed) (history : List Entry) : Type 0 where
  pub powered : (replay fixed history).powered ≡ true
  pub failures : (replay fixed history).failures ≡ 0
  pub entries : AllByRecursion (λ entry. is_of_failure entry ≡ false) history

-- Where the plan keeps its power, no legal history has a failure, and power is on after it.
abbrev pub KeptPowerIsOn : Type 0
KeptPowerIsOn = (fixed : Fixed) (history : List Entry) → KeepsPower fixed.plan
    → IsLegal fixed history → HasKeptPower fixed history
