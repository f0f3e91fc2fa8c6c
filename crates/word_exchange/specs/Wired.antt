-- The word exchange of a plant and its wires. All of it is this project's own.
use Rattle.std.specs.Prelude.{◌≡◌, ℕ, List, Ok}
use Rattle.std.specs.List.{All, AllPairs}
use Rattle.plant_types.specs.declared.plan.Plant.{Plant}
use Rattle.plant_types.specs.FirstFault.{first_failed}
use Rattle.traffic_cop.specs.DropTests.{cop_tests}
use Rattle.joint_history.specs.Runnable.{CanRunPlant}
use Rattle.serial_feed.specs.SerialRuns.{IsNotedRun}
use Rattle.peer_cop.specs.declared.wire.Wire.{Wire}
use Rattle.peer_cop.specs.Plants.{FitsPlant}
use Rattle.peer_cop.specs.Words.{AreApart}
use Rattle.word_exchange.specs.declared.wired.Exchanged.{Exchanged}
use Rattle.word_exchange.specs.Exchange.{IsExchange}

-- The drops of each controller pass their tests.
abbrev pub HasTestedDrops : Plant → Type 0
HasTestedDrops plant = All (λ plan. first_failed (cop_tests plan) ≡ Ok tt) plant.controllers

-- The wires of a plant: each fits it, and no input word is wired twice.
pub record AreWiresOf (plant : Plant) (wires : List Wire) : Type 0 where
  pub fit : All (FitsPlant plant) wires
  pub apart : AllPairs AreApart wires

-- The word exchange of a plant and its wires: the plant has the rows that its run brings about, the
-- run is one of this plant, with what its controllers noted of their panels, and the plant can be
-- run.
pub record IsWiredRun (plant : Plant) (wires : List Wire) (scans : ℕ) (exchanged : Exchanged)
    : Type 0 where
  pub exchange : IsExchange plant wires scans exchanged.plant exchanged.noted.joint
  pub run : IsNotedRun exchanged.plant scans exchanged.noted
  pub runs : CanRunPlant exchanged.plant
