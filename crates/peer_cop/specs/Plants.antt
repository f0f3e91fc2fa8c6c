-- Which wires fit a plant. This project's own.
use Rattle.std.specs.Prelude.{◌≡◌, ◌≤◌, ℕ, ◌==◌, All, Option, Some}
use Rattle.std.specs.List.{find}
use Rattle.std.specs.Option.{option_and_then}
use Rattle.plant_types.specs.declared.drops.IoDrop.{IoDrop}
use Rattle.plant_types.specs.declared.plan.ControllerPlan.{ControllerPlan}
use Rattle.plant_types.specs.declared.plan.Plant.{Plant}
use Rattle.plant_types.specs.Limits.{drop_words}
use Rattle.plant_types.specs.PlanTests.{drop_limit}
use Rattle.plant_types.specs.Plans.{IsFromTo, IsNode}
use Rattle.traffic_cop.specs.Drops.{drop_named}
use Rattle.traffic_cop.specs.Exchange.{input_total, output_total}
use Rattle.peer_cop.specs.declared.wire.Wire.{Wire}
use Rattle.peer_cop.specs.Words.{HasWords}

-- The most words of a wire.
abbrev pub wire_limit : ℕ
wire_limit = 32

-- The controller of a node, and its drop of a number.
abbrev pub plan_of : Plant → ℕ → Option ControllerPlan
plan_of plant node = find (λ plan. plan.node == node) plant.controllers

abbrev pub drop_of : Plant → ℕ → ℕ → Option IoDrop
drop_of plant node number =
    option_and_then (λ plan. drop_named plan.drops number) (plan_of plant node)

-- A drop as a plant can have it: its number is 1 to 32, and it takes and gives at most 64 words.
pub record IsPlantDrop (drop : IoDrop) : Type 0 where
  pub number : IsFromTo 1 drop_limit drop.number
  pub inputs : input_total drop.modules ≤ drop_words
  pub outputs : output_total drop.modules ≤ drop_words

-- A controller with an address of a node, and with drops as a plant can have them.
pub record HasPlantDrops (plan : ControllerPlan) : Type 0 where
  pub node : IsNode plan.node
  pub drops : All IsPlantDrop plan.drops

-- A plant whose drops can be wired.
abbrev pub CanBeWired : Plant → Type 0
CanBeWired plant = All HasPlantDrops plant.controllers

-- A wire joins two drops: it has 1 to 32 words, which are input words of the one drop and output
-- words of the other.
pub record JoinsDrops (into source : IoDrop) (wire : Wire) : Type 0 where
  pub count : IsFromTo 1 wire_limit wire.count
  pub inputs : HasWords wire.word wire.count (input_total into.modules)
  pub outputs : HasWords wire.from_word wire.count (output_total source.modules)

-- A wire fits a plant: both of its nodes have a controller with the drop, and it joins the drops.
pub record FitsPlant (plant : Plant) (wire : Wire) : Type 0 where
  pub into : IoDrop
  pub into_there : drop_of plant wire.node wire.drop ≡ Some into
  pub source : IoDrop
  pub source_there : drop_of plant wire.from wire.from_drop ≡ Some source
  pub joins : JoinsDrops into source wire
