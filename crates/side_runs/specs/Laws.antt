-- Runs side by side, scan by scan, and keys that cover them. All of it is this project's own.
use Rattle.std.specs.Prelude.{◌≡◌, ◌<◌, ℕ, ◌+◌, Bool, false, List, length, map, Option, Some}
use Rattle.std.specs.Prelude.{slice_get}
use Rattle.std.specs.List.{AllByRecursion}
use Rattle.plant_types.specs.declared.drops.IoDrop.{IoDrop}
use Rattle.plant_types.specs.declared.plan.ControllerPlan.{ControllerPlan}
use Rattle.plant_types.specs.Plans.{KeepsPower}
use Rattle.scan_order.specs.Due.{full_scan}
use Rattle.traffic_cop.specs.Rows.{IsRunnablePlan}
use Rattle.controller_core.specs.declared.fixed.Fixed.{Fixed}
use Rattle.controller_core.specs.Replay.{start}
use Rattle.state_space.specs.Answers.{Covers}
use Rattle.state_space.specs.Reaching.{IsBelow, Reaches}
use Rattle.field_runs.specs.Field.{state_after}
use Rattle.field_runs.specs.Scan.{scanned}
use Rattle.field_runs.specs.Told.{Agrees}
use Rattle.field_search.specs.Covered.{IsAlone}
use Rattle.side_runs.specs.Standing.{StandsWhole}
use Rattle.side_runs.specs.Beside.{AreAlikePairs, pair_after, PlaySideBySide, StatePair}
use Rattle.side_runs.specs.Beside.{TakeOneField}
use Rattle.side_runs.specs.Brought.{Brings, NamesRows, ScanField, rows_told}

-- A controller with the drops of another.
abbrev pub with_drops : List IoDrop → Fixed → Fixed
with_drops drops fixed = record fixed { plan = record fixed.plan { drops = drops } }

-- Where a plan brings what a field brings, each scan of its run is one with the rows of these drops
-- that the field tells.
abbrev pub BroughtRunsAreScans : Type 0
BroughtRunsAreScans =
    (fixed : Fixed) (drops : List IoDrop) (fields : List ScanField) (played : ControllerPlan)
    (scans : ℕ) (field : ScanField) → IsRunnablePlan fixed.plan → KeepsPower fixed.plan
    → TakeOneField drops fixed.plan.drops → Brings fixed drops fields played
    → slice_get fields scans ≡ Some field
    → Agrees (state_after played fixed.scan_time fixed.watchdog (scans + 1))
    (scanned (with_drops drops fixed) (rows_told fixed.plan (full_scan fixed.plan) field)
    (state_after played fixed.scan_time fixed.watchdog scans))

-- Whatever a field brings, a plan brings it.
abbrev pub FieldsArePlayed : Type 0
FieldsArePlayed =
    (fixed : Fixed) (drops : List IoDrop) (fields : List ScanField) → IsRunnablePlan fixed.plan
    → KeepsPower fixed.plan → TakeOneField drops fixed.plan.drops
    → AllByRecursion (NamesRows drops) fields
    → (played : ControllerPlan) × Brings fixed drops fields played

-- A controller that is alone is so with the drops of another, where both take one field.
abbrev pub DropsStayAlone : Type 0
DropsStayAlone =
    (plan : ControllerPlan) (drops : List IoDrop) → IsAlone plan → TakeOneField drops plan.drops
    → IsAlone (record plan { drops = drops })

-- Each of so many moves tells what a field may bring in a scan, and whatever it may bring, one of
-- them tells both controllers the same.
pub record TellBoth (old new : Fixed) (fields : ℕ → ScanField) (count : ℕ) : Type 0 where
  pub named : (by : ℕ) → by < count → NamesRows old.plan.drops (fields by)
  pub all : (field : ScanField) → NamesRows old.plan.drops field
      → (by : ℕ) × ((by < count)
      × ((rows_told old.plan (full_scan old.plan) (fields by)
      ≡ rows_told old.plan (full_scan old.plan) field)
      × (rows_told new.plan (full_scan new.plan) (fields by)
      ≡ rows_told new.plan (full_scan new.plan) field)))

-- A key stands for a pair of states that is alike another.
pub record StandsForPair (old new : ControllerPlan) (s kept : StatePair) : Type 0 where
  pub old_stands : StandsWhole old s.old kept.old
  pub new_stands : StandsWhole new s.new kept.new

-- The pair of the starts, and the pair after a scan of both in which a field brings this.
abbrev pub start_pair : Fixed → Fixed → StatePair
start_pair old new = record { old = start old.plan; new = start new.plan }

abbrev pub scanned_pair : Fixed → Fixed → ScanField → StatePair → StatePair
scanned_pair old new field s = record {
  old = scanned old (rows_told old.plan (full_scan old.plan) field) s.old;
  new = scanned (with_drops old.plan.drops new)
      (rows_told new.plan (full_scan new.plan) field) s.new;
}

-- A key of the start, and a move from a key to one of a pair after a scan, where keys stand for
-- pairs of states.
abbrev pub pairs_start : Fixed → Fixed → (List ℕ → StatePair) → List ℕ → Type 0
pairs_start old new states key = StandsForPair old.plan new.plan (start_pair old new) (states key)

abbrev pub pairs_lead : Fixed → Fixed → (List ℕ → StatePair) → (ℕ → ScanField) → List ℕ → ℕ
    → List ℕ → Type 0
pairs_lead old new states fields key by next =
    StandsForPair old.plan new.plan (scanned_pair old new (fields by) (states key)) (states next)

-- Alike pairs are asked the same.
abbrev pub AsksPairsAlike : (StatePair → Bool) → Type 0
AsksPairsAlike asked = (s t : StatePair) → AreAlikePairs s t → asked s ≡ asked t

-- Two controllers that can be searched side by side.
pub record AreSearchable (old new : Fixed) : Type 0 where
  pub old_alone : IsAlone old.plan
  pub new_alone : IsAlone new.plan
  pub one_field : TakeOneField old.plan.drops new.plan.drops

-- A key of a list stands for a pair that is alike this one.
pub record HasAlikePair (states : List ℕ → StatePair) (keys : List (List ℕ)) (s : StatePair)
    : Type 0 where
  pub place : ℕ
  pub key : List ℕ
  pub is_there : slice_get keys place ≡ Some key
  pub alike : AreAlikePairs s (states key)

-- What keys that cover what fewer moves than a bound lead to say of runs side by side: what is so
-- of none of their pairs is so of no pair after fewer scans, and each such pair is alike one of a
-- key.
pub record CoverRuns (old new : Fixed) (states : List ℕ → StatePair) (asked : StatePair → Bool)
    (bound : Option ℕ) (keys : List (List ℕ)) : Type 0 where
  pub never : (one other : ControllerPlan) (scans : ℕ) → PlaySideBySide old new one other scans
      → IsBelow bound scans → asked (pair_after old new one other scans) ≡ false
  pub all : (one other : ControllerPlan) (scans : ℕ) → PlaySideBySide old new one other scans
      → IsBelow bound scans → HasAlikePair states keys (pair_after old new one other scans)

abbrev pub PairCoversHold : Type 0
PairCoversHold =
    (old new : Fixed) (states : List ℕ → StatePair) (fields : ℕ → ScanField) (count : ℕ)
    (asked : StatePair → Bool) (bound : Option ℕ) (keys : List (List ℕ)) (depth : ℕ → ℕ)
    → AreSearchable old new → TellBoth old new fields count → AsksPairsAlike asked
    → Covers (pairs_start old new states) count (pairs_lead old new states fields)
    (λ key. asked (states key)) bound keys depth
    → CoverRuns old new states asked bound keys

-- Two plans play side by side and bring what a field brings in these scans, and come to a pair that
-- is alike another.
pub record AreRunsTo (old new : Fixed) (fields : List ScanField) (s : StatePair) : Type 0 where
  pub one : ControllerPlan
  pub other : ControllerPlan
  pub old_brings : Brings old old.plan.drops fields one
  pub new_brings : Brings new old.plan.drops fields other
  pub alike : AreAlikePairs (pair_after old new one other (length fields)) s

-- What moves lead to, two runs side by side come to.
abbrev pub PairPathsAreRuns : Type 0
PairPathsAreRuns =
    (old new : Fixed) (states : List ℕ → StatePair) (fields : ℕ → ScanField) (count : ℕ)
    (path key : List ℕ) → AreSearchable old new → TellBoth old new fields count
    → Reaches (pairs_start old new states) count (pairs_lead old new states fields) path key
    → AreRunsTo old new (map fields path) (states key)
