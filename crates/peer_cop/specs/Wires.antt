-- The wires of a word exchange: which lines are wires of a plant, and which line is the first that
-- is none. This project's own.
use Rattle.std.specs.Prelude.{◌≡◌, ℕ, ◌-◌, Bool, List, map, length, take, All, AllPairs}
use Rattle.plant_types.specs.declared.plan.Plant.{Plant}
use Rattle.plant_types.specs.Plans.{IsFromTo}
use Rattle.peer_cop.specs.declared.wire.Wire.{Wire}
use Rattle.peer_cop.specs.declared.wire.WireEnd.{WireEnd}
use Rattle.peer_cop.specs.declared.wire.WireEnd.TheVariants.{BadWire, NoMemory}
use Rattle.peer_cop.specs.Lines.{wire_line, BeginsWithWire}
use Rattle.peer_cop.specs.Words.{AreApart}
use Rattle.peer_cop.specs.Plants.{FitsPlant}
use Rattle.peer_cop.specs.Places.{IsFree, flagged}

-- Lines are the wires of a plant: each is the line of its wire, each wire fits the plant, and no
-- input word is wired twice.
pub record AreWires (plant : Plant) (lines : List (List ℕ)) (wires : List Wire) : Type 0 where
  pub read : lines ≡ map wire_line wires
  pub fit : All (FitsPlant plant) wires
  pub apart : AllPairs AreApart wires

-- The first bad line, counted from 1: the lines before it are wires of a plant, and with it they
-- are none.
pub record IsFirstBad (plant : Plant) (lines : List (List ℕ)) (place : ℕ) : Type 0 where
  pub there : IsFromTo 1 (length lines) place
  pub before : (wires : List Wire) × AreWires plant (take (place - 1) lines) wires
  pub bad : (wires : List Wire) → ¬ (AreWires plant (take place lines) wires)

-- Lines are refused: at the first bad one, or since memory ran out.
abbrev pub AreRefused : Plant → List (List ℕ) → WireEnd → Type 0
AreRefused plant lines (BadWire place) = IsFirstBad plant lines place
AreRefused plant lines NoMemory = Unit {0}

-- The next wire is taken from a text: it stands at the front, fits the plant, feeds words that are
-- not flagged yet, and flags them.
pub record TakesWire (plant : Plant) (flags after : List Bool) (text : List ℕ) (wire : Wire)
    (rest : List ℕ) : Type 0 where
  pub begins : BeginsWithWire text wire rest
  pub fits : FitsPlant plant wire
  pub free : IsFree flags wire
  pub marked : after ≡ flagged flags wire
