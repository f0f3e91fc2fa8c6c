-- Keys of states that cover a field. All of it is this project's own.
use Rattle.std.specs.Prelude.{◌≡◌, ◌<◌, ℕ, Bool, false, List, Option, Some, slice_get}
use Rattle.plant_types.specs.declared.plan.ControllerPlan.{ControllerPlan}
use Rattle.plant_types.specs.Discretes.{Refs}
use Rattle.plant_types.specs.Plans.{KeepsPower}
use Rattle.scan_order.specs.Due.{full_scan}
use Rattle.traffic_cop.specs.Rows.{IsRunnablePlan}
use Rattle.field_runs.specs.AlikeStates.{HasNoMessages}
use Rattle.field_runs.specs.ControllerCore.{start, ControllerState, Fixed}
use Rattle.state_space.specs.Answers.{Covers}
use Rattle.state_space.specs.Reaching.{IsBelow}
use Rattle.field_runs.specs.Alike.{IsSettled}
use Rattle.field_runs.specs.Field.{PlaysInField, state_after}
use Rattle.field_runs.specs.Scan.{scanned}
use Rattle.field_runs.specs.Told.{AreTold}
use Rattle.cone_of.specs.Cone.{IsClosed}
use Rattle.cone_runs.specs.AlikeIn.{IsAlikeIn}

-- A controller that a search can be made of: it can be run, keeps its power, and has no message
-- blocks.
pub record IsAlone (plan : ControllerPlan) : Type 0 where
  pub runs : IsRunnablePlan plan
  pub power : KeepsPower plan
  pub messages : HasNoMessages plan.segments

-- Each scan in which the field brings rows of the drops is one of so many moves, each of which tells
-- rows.
abbrev pub TellAll : Fixed → (ℕ → List ℕ) → ℕ → Type 0
TellAll fixed rows count =
    (told : List ℕ) → AreTold fixed.plan (full_scan fixed.plan) told
    → (by : ℕ) × ((by < count) × ((s : ControllerState)
    → scanned fixed (rows by) s ≡ scanned fixed told s))

-- A key stands for a state that is alike another on a set of references, and has settled unless it
-- stopped.
pub record StandsFor (plan : ControllerPlan) (set : Refs) (s kept : ControllerState) : Type 0 where
  pub alike : IsAlikeIn plan set s kept
  pub settled : kept.stop ≡ 0 → IsSettled plan kept

-- A key of the start, and a move from a key to one of a state after a scan with its rows, where
-- keys stand for states.
abbrev pub starts_at : Fixed → Refs → (List ℕ → ControllerState) → List ℕ → Type 0
starts_at fixed set states key = StandsFor fixed.plan set (start fixed.plan) (states key)

abbrev pub leads_to : Fixed → Refs → (List ℕ → ControllerState) → (ℕ → List ℕ) → List ℕ → ℕ
    → List ℕ → Type 0
leads_to fixed set states rows key by next =
    StandsFor fixed.plan set (scanned fixed (rows by) (states key)) (states next)

-- States that are alike on a set are asked the same.
abbrev pub AsksAlike : ControllerPlan → Refs → (ControllerState → Bool) → Type 0
AsksAlike plan set asked =
    (s t : ControllerState) → IsAlikeIn plan set s t → asked s ≡ asked t

-- Where keys cover what fewer moves than a bound lead to, on a closed set, and something is so of
-- none of their states, it is so of no state after fewer scans of a run of the field.
abbrev pub CoversHoldInField : Type 0
CoversHoldInField =
    (fixed : Fixed) (set : Refs) (states : List ℕ → ControllerState) (rows : ℕ → List ℕ)
    (count : ℕ) (asked : ControllerState → Bool) (bound : Option ℕ) (keys : List (List ℕ))
    (depth : ℕ → ℕ) → IsAlone fixed.plan → IsClosed fixed.plan set → TellAll fixed rows count
    → AsksAlike fixed.plan set asked
    → Covers (starts_at fixed set states) count (leads_to fixed set states rows)
    (λ key. asked (states key)) bound keys depth
    → (played : ControllerPlan) (scans : ℕ) → PlaysInField fixed.plan played → IsBelow bound scans
    → asked (state_after played fixed.scan_time fixed.watchdog scans) ≡ false

-- A key of a list stands for a state that is alike this one on a set.
pub record HasAlike (plan : ControllerPlan) (set : Refs) (states : List ℕ → ControllerState)
    (keys : List (List ℕ)) (s : ControllerState) : Type 0 where
  pub place : ℕ
  pub key : List ℕ
  pub is_there : slice_get keys place ≡ Some key
  pub alike : IsAlikeIn plan set s (states key)

-- Where keys cover what fewer moves than a bound lead to, on a closed set, each state behind fewer
-- scans of a run of the field is alike that of a key.
abbrev pub CoversReachAll : Type 0
CoversReachAll =
    (fixed : Fixed) (set : Refs) (states : List ℕ → ControllerState) (rows : ℕ → List ℕ)
    (count : ℕ) (asked : ControllerState → Bool) (bound : Option ℕ) (keys : List (List ℕ))
    (depth : ℕ → ℕ) → IsAlone fixed.plan → IsClosed fixed.plan set → TellAll fixed rows count
    → AsksAlike fixed.plan set asked
    → Covers (starts_at fixed set states) count (leads_to fixed set states rows)
    (λ key. asked (states key)) bound keys depth
    → (played : ControllerPlan) (scans : ℕ) → PlaysInField fixed.plan played → IsBelow bound scans
    → HasAlike fixed.plan set states keys (state_after played fixed.scan_time fixed.watchdog scans)
