-- What a search of all runs of a field finds. All of it is this project's own.
use Rattle.std.specs.Prelude.{◌≡◌, ◌<◌, ℕ, Bool, true, false, List, length, map, Option, Some}
use Rattle.std.specs.Prelude.{slice_get}
use Rattle.plant_types.specs.declared.plan.ControllerPlan.{ControllerPlan}
use Rattle.plant_types.specs.Discretes.{Refs}
use Rattle.scan_order.specs.Due.{full_scan}
use Rattle.controller_core.specs.declared.fixed.Fixed.{Fixed}
use Rattle.controller_core.specs.Replay.{ControllerState}
use Rattle.state_space.specs.Reaching.{IsBelow, up_to}
use Rattle.field_runs.specs.Field.{PlaysInField, state_after}
use Rattle.field_runs.specs.Played.{with_scripts, AreScansTold}
use Rattle.cone_of.specs.Cone.{IsCone}
use Rattle.field_search.specs.ConeRuns.{IsAlikeIn}
use Rattle.field_machine.specs.declared.asked.Asked.{Asked}
use Rattle.field_machine.specs.declared.searching.Found.{Found}
use Rattle.field_machine.specs.declared.searching.Found.TheVariants.{Holds, Fails}
use Rattle.field_machine.specs.Asked.{is_so}
use Rattle.field_machine.specs.Choices.{told_by}
use Rattle.field_machine.specs.Narrow.{reference_of}

-- The state after so many scans of a controller that is alone with a plan that plays in the field.
abbrev pub state_of_run : Fixed → ControllerPlan → ℕ → ControllerState
state_of_run fixed played scans = state_after played fixed.scan_time fixed.watchdog scans

-- A run of the field, of at most as many scans as the limit, comes to a state that is alike another
-- on a set of references.
pub record IsReached (fixed : Fixed) (set : Refs) (limit : Option ℕ) (s : ControllerState) : Type 0 where
  pub played : ControllerPlan
  pub scans : ℕ
  pub plays : PlaysInField fixed.plan played
  pub within : IsBelow (up_to limit) scans
  pub alike : IsAlikeIn fixed.plan set (state_of_run fixed played scans) s

-- A state of a list is alike another on a set of references.
pub record IsOneOf (plan : ControllerPlan) (set : Refs) (states : List ControllerState)
    (s : ControllerState) : Type 0 where
  pub place : ℕ
  pub one : ControllerState
  pub is_there : slice_get states place ≡ Some one
  pub alike : IsAlikeIn plan set s one

-- What is asked is never so: after no scan of any run of the field, of whatever length, or of at most
-- as many scans as the limit; and there are just so many states, no two alike on the cone of what is
-- asked, to which such runs come, their starts among them.
pub record IsNeverSo (fixed : Fixed) (asked : Asked) (limit : Option ℕ) (count : ℕ) : Type 0 where
  pub never : (played : ControllerPlan) (scans : ℕ) → PlaysInField fixed.plan played
      → IsBelow (up_to limit) scans → is_so asked (state_of_run fixed played scans) ≡ false
  pub cone : Refs
  pub is_cone : IsCone fixed.plan (reference_of asked) cone
  pub states : List ControllerState
  pub as_many : length states ≡ count
  pub apart : (i j : ℕ) (s t : ControllerState) → slice_get states i ≡ Some s
      → slice_get states j ≡ Some t → IsAlikeIn fixed.plan cone s t → i ≡ j
  pub reached : (i : ℕ) (s : ControllerState) → slice_get states i ≡ Some s
      → IsReached fixed cone limit s
  pub all : (played : ControllerPlan) (scans : ℕ) → PlaysInField fixed.plan played
      → IsBelow (up_to limit) scans
      → IsOneOf fixed.plan cone states (state_of_run fixed played scans)

-- With these rows as scripts, one list of rows for each scan, a plan plays in the field, and it is so
-- at the end of the last of these scans, within the limit; no run of the field comes to it in fewer.
pub record IsFirstSo (fixed : Fixed) (asked : ControllerState → Bool) (limit : Option ℕ)
    (told : List (List ℕ)) : Type 0 where
  pub rows : AreScansTold fixed.plan told
  pub plays : PlaysInField fixed.plan (with_scripts fixed.plan told)
  pub within : IsBelow (up_to limit) (length told)
  pub so : asked (state_of_run fixed (with_scripts fixed.plan told) (length told)) ≡ true
  pub first : (played : ControllerPlan) (scans : ℕ) → PlaysInField fixed.plan played
      → scans < length told → asked (state_of_run fixed played scans) ≡ false

-- The rows of scans in which the field brings rows in these ways.
abbrev pub told_in_ways : ControllerPlan → List ℕ → List (List ℕ)
told_in_ways plan ways = map (told_by plan (full_scan plan)) ways

-- What was found of a field.
abbrev pub IsFoundIn : Fixed → Asked → Option ℕ → Found → Type 0
IsFoundIn fixed asked limit (Holds states) = IsNeverSo fixed asked limit states
IsFoundIn fixed asked limit (Fails ways) =
    IsFirstSo fixed (is_so asked) limit (told_in_ways fixed.plan ways.items)
