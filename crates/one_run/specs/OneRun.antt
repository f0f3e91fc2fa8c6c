-- A plant has one run in each order of turns, and one serial run. This project's own.
use Rattle.std.specs.Prelude.{◌≡◌, ℕ, List}
use Rattle.plant_types.specs.Plans.{IsPlant}
use Rattle.plant_types.specs.declared.plan.Plant.{Plant}
use Rattle.joint_history.specs.declared.joint.Joint.{Joint}
use Rattle.joint_history.specs.JointLaws.{IsJoint, IsLegalJoint}
use Rattle.serial_run.specs.declared.order.Turn.{Turn}
use Rattle.serial_run.specs.Serial.{IsSerial}
use Rattle.serial_run.specs.Turns.{IsTurns}

-- A joint history whose lists are legal ones of a plant's stations, of its bridges and of its
-- rings, for so many scans, and keep the laws between them.
pub record IsRunOf (plant : Plant) (scans : ℕ) (joint : Joint) : Type 0 where
  pub legal : IsLegalJoint plant scans joint
  pub ties : IsJoint joint

-- Two such joint histories of a plant are equal where both are made by the same turns in the same
-- order.
abbrev pub OneTurnsRun : Type 0
OneTurnsRun =
    (plant : Plant) (scans : ℕ) (order : List Turn) (one other : Joint) → IsPlant plant
    → IsTurns plant scans order one → IsRunOf plant scans one
    → IsTurns plant scans order other → IsRunOf plant scans other → one ≡ other

-- Two such joint histories of a plant are equal where both are those of its serial run.
abbrev pub OneSerialRun : Type 0
OneSerialRun =
    (plant : Plant) (scans : ℕ) (one other : Joint) → IsPlant plant
    → IsSerial plant scans one → IsRunOf plant scans one
    → IsSerial plant scans other → IsRunOf plant scans other → one ≡ other
