-- How a serial run stands between two of its repetitions. All of it is this project's own.
use Rattle.std.specs.Prelude.{◌≡◌, ℕ, Bool, true, false, not, List}
use Rattle.plant_types.specs.declared.drops.ScriptRow.{ScriptRow}
use Rattle.plant_types.specs.declared.plan.Plant.{Plant}
use Rattle.plant_types.specs.Plans.{first_net}
use Rattle.serial_run.specs.RouteLaws.{EffectsAreRight}
use Rattle.serial_run.specs.EntryCauses.{IsInOneOrder}
use Rattle.serial_run.specs.EndTimes.{AreBridgesInTime}
use Rattle.joint_history.specs.declared.joint.Joint.{Joint}
use Rattle.joint_history.specs.declared.noted.Noted.{Noted}
use Rattle.joint_history.specs.Complete.{IsComplete}
use Rattle.joint_history.specs.JointLaws.{IsJoint, IsLegalJoint}
use Rattle.joint_history.specs.Runnable.{CanRunPlant}
use Rattle.serial_run.specs.declared.stations.Stations.{Stations}
use Rattle.serial_run.specs.Held.{AllHave, IsOffAway}
use Rattle.serial_run.specs.Over.{IsNotedRun}
use Rattle.serial_run.specs.Scans.{have_ended, AreBetweenScans}
use Rattle.serial_run.specs.Serial.{Finishes, IsChain, IsRepetition, IsSerial}
use Rattle.serial_run.specs.Stations.{joint_of, StandAll}
use Rattle.serial_run.specs.Turns.{nothing_made}
use Rattle.serial_feed.specs.Feeding.{plant_fed}

-- The stations of a serial run, and how many rotations of the token each repetition has.
pub record SerialIs : Type 0 where
  pub run : Stations
  pub rotations : ℕ

-- The joint history that a serial run has made so far.
abbrev pub made_by : SerialIs → Joint
made_by serial = joint_of serial.run

-- The scans of all controllers are gone, or they have stopped.
abbrev pub are_gone : SerialIs → Bool
are_gone serial = have_ended serial.run

-- A serial run stands where some repetitions of a plant's serial run have ended: they made its
-- joint history, the plant can be run, its stations stand between their turns and their scans, and
-- no controller that is away has power.
pub record StandsFor (plant : Plant) (scans : ℕ) (serial : SerialIs) : Type 0 where
  pub can : CanRunPlant plant
  pub stations : StandAll plant scans serial.run
  pub between : AreBetweenScans serial.run
  pub off : AllHave IsOffAway serial.run
  pub rotations : (first_net plant).rotations ≡ serial.rotations
  pub after_each : List Joint
  pub repetitions : IsChain (IsRepetition plant scans) (nothing_made plant) after_each
      (made_by serial)

-- A serial run stands for some plant.
pub record StandsForSome (serial : SerialIs) : Type 0 where
  pub plant : Plant
  pub scans : ℕ
  pub stands : StandsFor plant scans serial

-- A serial run begins: it stands for the plant, and nothing was made.
pub record Begins (plant : Plant) (scans : ℕ) (serial : SerialIs) : Type 0 where
  pub stands : StandsFor plant scans serial
  pub nothing : made_by serial ≡ nothing_made plant

-- One repetition led from a joint history to the next, or nothing where all scans were gone.
abbrev pub RepeatedIf : Bool → Plant → ℕ → Joint → Joint → Type 0
RepeatedIf true plant scans old new = new ≡ old
RepeatedIf false plant scans old new = IsRepetition plant scans old new

-- A serial run made one repetition, or nothing where all scans were gone: it stands for each plant
-- for which it stood, and the flag says whether scans are left.
pub record Turned (old new : SerialIs) (goes_on : Bool) : Type 0 where
  pub stands : (plant : Plant) (scans : ℕ) → StandsFor plant scans old
      → StandsFor plant scans new
  pub made : (plant : Plant) (scans : ℕ) → StandsFor plant scans old
      → RepeatedIf (are_gone old) plant scans (made_by old) (made_by new)
  pub goes_on_is : goes_on ≡ not (are_gone new)

-- A serial run was fed a row: it made nothing, and stands for each plant with the row for which it
-- stood without it.
pub record FedFor (node drop : ℕ) (row : ScriptRow) (old new : SerialIs) : Type 0 where
  pub made : made_by new ≡ made_by old
  pub stands : (plant : Plant) (scans : ℕ) → StandsFor plant scans old
      → StandsFor (plant_fed plant node drop row) scans new

-- A serial run made nothing, and stands for each plant for which it stood.
pub record StaysFor (old new : SerialIs) : Type 0 where
  pub made : made_by new ≡ made_by old
  pub stands : (plant : Plant) (scans : ℕ) → StandsFor plant scans old
      → StandsFor plant scans new

-- The joint history of a plant's serial run: it is legal and complete, keeps the laws between its
-- lists, is right in its effects, the entries of each ring and of the stations on it have one order
-- in time, and its bridges are in time with the nodes of their ends.
pub record IsWholeRun (plant : Plant) (scans : ℕ) (whole : Joint) : Type 0 where
  pub serial : IsSerial plant scans whole
  pub legal : IsLegalJoint plant scans whole
  pub joint : IsJoint whole
  pub effects : EffectsAreRight whole
  pub in_time : IsInOneOrder plant whole
  pub bridges_in_time : AreBridgesInTime whole
  pub complete : IsComplete plant scans whole

-- What a serial run hands over is a run of the plant, to which it went on from what it had made.
pub record HandsOver (plant : Plant) (scans : ℕ) (serial : SerialIs) (noted : Noted)
    : Type 0 where
  pub run : IsNotedRun plant scans noted
  pub finishes : Finishes plant scans (made_by serial) noted.joint

-- A whole run ends a serial run: it is one of the plant, to which the serial run went on from what
-- it had made.
pub record Ends (plant : Plant) (scans : ℕ) (serial : SerialIs) (whole : Joint) : Type 0 where
  pub run : IsWholeRun plant scans whole
  pub finishes : Finishes plant scans (made_by serial) whole

-- What a serial run hands over is that of each plant for which it stood, with what its controllers
-- noted of their panels.
abbrev pub IsNotedOfEach : SerialIs → Noted → Type 0
IsNotedOfEach serial noted =
    (plant : Plant) (scans : ℕ) → StandsFor plant scans serial → HandsOver plant scans serial noted

-- A joint history ends a serial run of each plant for which it stood.
abbrev pub IsRunOfEach : SerialIs → Joint → Type 0
IsRunOfEach serial joint =
    (plant : Plant) (scans : ℕ) → StandsFor plant scans serial → Ends plant scans serial joint
