-- A plant with wires has one word exchange of so many scans. This project's own.
use Rattle.std.specs.Prelude.{◌≡◌, ℕ, List}
use Rattle.plant_types.specs.declared.plan.Plant.{Plant}
use Rattle.joint_history.specs.declared.joint.Joint.{Joint}
use Rattle.joint_history.specs.Runnable.{CanRunPlant}
use Rattle.one_run.specs.OneRun.{IsRunOf}
use Rattle.peer_cop.specs.declared.wire.Wire.{Wire}
use Rattle.word_exchange.specs.Exchange.{IsExchange}

-- A word exchange whose joint history has legal lists of the plant with its rows, which keep the
-- laws between them.
pub record IsExchangeRun (plant : Plant) (wires : List Wire) (scans : ℕ) (fed : Plant)
    (joint : Joint) : Type 0 where
  pub exchange : IsExchange plant wires scans fed joint
  pub run : IsRunOf fed scans joint

-- Two such word exchanges of a plant that can be run are equal: one plant with its rows, and one
-- joint history.
abbrev pub OneExchange : Type 0
OneExchange =
    (plant : Plant) (wires : List Wire) (scans : ℕ) (fed other : Plant) (joint another : Joint)
    → CanRunPlant plant
    → IsExchangeRun plant wires scans fed joint → IsExchangeRun plant wires scans other another
    → (fed ≡ other) × (joint ≡ another)
