-- What a serial run that is over hands over. This project's own.
use Rattle.std.specs.Prelude.{◌≡◌, ℕ}
use Rattle.plant_types.specs.declared.plan.Plant.{Plant}
use Rattle.route_laws.specs.Effects.{EffectsAreRight}
use Rattle.bridge_station.specs.TurnLaws.{IsInOneOrder}
use Rattle.bridge_station.specs.EndTimes.{AreBridgesInTime}
use Rattle.joint_history.specs.declared.noted.Noted.{Noted}
use Rattle.summary_text.specs.Coils.{coils_at_end}
use Rattle.joint_history.specs.Complete.{IsComplete}
use Rattle.joint_history.specs.JointLaws.{IsJoint, IsLegalJoint}
use Rattle.joint_history.specs.Noted.{IsNoted}
use Rattle.serial_run.specs.declared.runs.CountedRun.{CountedRun}
use Rattle.serial_run.specs.declared.stations.Stations.{Stations}
use Rattle.serial_run.specs.Serial.{IsSerial}
use Rattle.serial_run.specs.Stations.{StandAll, joint_of}

-- The stations of a plant whose serial run is over.
pub record AreOver (plant : Plant) (scans : ℕ) (run : Stations) : Type 0 where
  pub stand : StandAll plant scans run
  pub serial : IsSerial plant scans (joint_of run)
  pub complete : IsComplete plant scans (joint_of run)

-- The joint history of a plant's serial run, with what its controllers noted of their panels: it
-- is legal and complete, keeps the laws between its lists, is right in its effects, the entries of
-- each ring and of the stations on it have one order in time, and its bridges are in time with the
-- nodes of their ends.
pub record IsNotedRun (plant : Plant) (scans : ℕ) (noted : Noted) : Type 0 where
  pub serial : IsSerial plant scans noted.joint
  pub legal : IsLegalJoint plant scans noted.joint
  pub joint : IsJoint noted.joint
  pub effects : EffectsAreRight noted.joint
  pub in_time : IsInOneOrder plant noted.joint
  pub bridges_in_time : AreBridgesInTime noted.joint
  pub complete : IsComplete plant scans noted.joint
  pub notes : IsNoted plant noted

-- A serial run with what `IsNotedRun` says of it, and with how many coils are on at its end.
pub record IsCountedRun (plant : Plant) (scans : ℕ) (counted : CountedRun) : Type 0 where
  pub run : IsNotedRun plant scans counted.noted
  pub coils : counted.coils ≡ coils_at_end plant counted.noted.joint
