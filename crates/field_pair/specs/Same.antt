-- What is found of two controllers side by side. All of it is this project's own.
use Rattle.std.specs.Prelude.{◌≡◌, ◌<◌, ℕ, List, length, map, Option, Some, slice_get, Vec}
use Rattle.std.specs.List.{AllByRecursion}
use Rattle.std.specs.declared.alloc.Global.{Global}
use Rattle.plant_types.specs.declared.plan.ControllerPlan.{ControllerPlan}
use Rattle.plant_types.specs.declared.reference.Ref.{Ref}
use Rattle.controller_core.specs.declared.fixed.Fixed.{Fixed}
use Rattle.controller_core.specs.Notes.{values_of}
use Rattle.controller_core.specs.Replay.{ControllerState}
use Rattle.state_space.specs.Reaching.{IsBelow, up_to}
use Rattle.field_machine.specs.declared.exchanges.Exchange.{Exchange}
use Rattle.field_machine.specs.Never.{state_of_run}
use Rattle.side_runs.specs.Beside.{AreAlikePairs, PlaySideBySide, StatePair, pair_after}
use Rattle.side_runs.specs.Brought.{Brings, ScanField}
use Rattle.field_pair.specs.declared.searching.Apart.{Apart}
use Rattle.field_pair.specs.declared.searching.FoundPair.{FoundPair}
use Rattle.field_pair.specs.declared.searching.FoundPair.TheVariants as found
use Rattle.field_pair.specs.declared.searching.PanelEnd.{PanelEnd}
use Rattle.field_pair.specs.Exchanged.{AreOfBoth, field_of}
use Rattle.field_pair.specs.Panel.{panel_told}

-- After so many scans the panel lines of two runs tell the same.
abbrev pub TellTheSame : Fixed → Fixed → ControllerPlan → ControllerPlan → ℕ → Type 0
TellTheSame old new one other scans =
    panel_told old.plan.panel (state_of_run old one scans)
    ≡ panel_told new.plan.panel (state_of_run new other scans)

-- Two runs side by side, of at most as many scans as the limit, come to a pair that is alike
-- another.
pub record IsPairReached (old new : Fixed) (limit : Option ℕ) (s : StatePair) : Type 0 where
  pub one : ControllerPlan
  pub other : ControllerPlan
  pub scans : ℕ
  pub beside : PlaySideBySide old new one other scans
  pub within : IsBelow (up_to limit) scans
  pub alike : AreAlikePairs (pair_after old new one other scans) s

-- A pair of a list is alike another.
pub record IsOneOfPairs (pairs : List StatePair) (s : StatePair) : Type 0 where
  pub place : ℕ
  pub pair : StatePair
  pub is_there : slice_get pairs place ≡ Some pair
  pub alike : AreAlikePairs s pair

-- Two controllers do the same: after each scan of any two runs side by side, of whatever length, or
-- of at most as many scans as the limit, their panel lines tell the same; and there are just so
-- many pairs of states, no two alike, to which such runs come, their starts among them.
pub record IsSameFor (old new : Fixed) (limit : Option ℕ) (count : ℕ) : Type 0 where
  pub same : (one other : ControllerPlan) (scans : ℕ) → PlaySideBySide old new one other scans
      → IsBelow (up_to limit) scans → TellTheSame old new one other scans
  pub pairs : List StatePair
  pub as_many : length pairs ≡ count
  pub apart : (i j : ℕ) (s t : StatePair) → slice_get pairs i ≡ Some s
      → slice_get pairs j ≡ Some t → AreAlikePairs s t → i ≡ j
  pub reached : (i : ℕ) (s : StatePair) → slice_get pairs i ≡ Some s
      → IsPairReached old new limit s
  pub all : (one other : ControllerPlan) (scans : ℕ) → PlaySideBySide old new one other scans
      → IsBelow (up_to limit) scans → IsOneOfPairs pairs (pair_after old new one other scans)

-- Two runs, and the input exchanges of each of their scans.
pub record ApartRuns : Type 0 where
  pub brought : List (List Exchange)
  pub one : ControllerPlan
  pub other : ControllerPlan

-- What a field brings in these scans.
abbrev pub fields_of : List (List Exchange) → List ScanField
fields_of brought = map field_of brought

-- With these exchanges in as many scans, each of which brings a row of its drop, two runs play side
-- by side, and at the end of the last scan, within the limit, their panel lines tell something
-- else; no two runs side by side are told apart by fewer scans.
pub record IsFirstApart (old new : Fixed) (limit : Option ℕ) (runs : ApartRuns) : Type 0 where
  pub exchanges : AllByRecursion (AreOfBoth old.plan new.plan) runs.brought
  pub old_brings : Brings old old.plan.drops (fields_of runs.brought) runs.one
  pub new_brings : Brings new old.plan.drops (fields_of runs.brought) runs.other
  pub within : IsBelow (up_to limit) (length runs.brought)
  pub apart : TellTheSame old new runs.one runs.other (length runs.brought) → ⊥
  pub first : (one other : ControllerPlan) (scans : ℕ) → PlaySideBySide old new one other scans
      → scans < length runs.brought → TellTheSame old new one other scans

-- The stop code and the values of the panel in a state.
pub record IsPanelEnd (panel : List Ref) (s : ControllerState) (end : PanelEnd) : Type 0 where
  pub stop : end.stop ≡ s.stop
  pub values : end.values.items ≡ values_of s.solving.map panel

-- The exchanges of scans as lists.
abbrev pub listed : List (Vec Exchange Global) → List (List Exchange)
listed scans = map (λ (scan : Vec Exchange Global). scan.items) scans

-- What was found tells two runs, their exchanges, and what both panels show at the end.
pub record AreToldBy (old new : Fixed) (runs : ApartRuns) (apart : Apart) : Type 0 where
  pub brought : runs.brought ≡ listed apart.brought.items
  pub old_end : IsPanelEnd old.plan.panel (state_of_run old runs.one (length runs.brought))
      apart.old
  pub new_end : IsPanelEnd new.plan.panel (state_of_run new runs.other (length runs.brought))
      apart.new

-- What was found of two controllers.
abbrev pub IsFoundOfPair : Fixed → Fixed → Option ℕ → FoundPair → Type 0
IsFoundOfPair old new limit (found.Same pairs) = IsSameFor old new limit pairs
IsFoundOfPair old new limit (found.Differ apart) =
    (runs : ApartRuns) × (IsFirstApart old new limit runs × AreToldBy old new runs apart)
