-- What holds of a plant that is loaded. This project's own.
use Rattle.std.specs.Prelude.{◌≡◌, [], ◌∷◌}
use Rattle.plant_types.specs.declared.plan.Plant.{Plant}
use Rattle.plant_types.specs.Plans.{net_numbers}

-- A plant of a file of version 1 has one network, which has no number, and no bridge.
pub record IsOfVersionOne (plant : Plant) : Type 0 where
  pub net : net_numbers plant ≡ 0 ∷ []
  pub no_bridge : plant.bridges ≡ []
