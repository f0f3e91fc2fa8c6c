-- What a block of a network does when it is solved: this project's own.
use Rattle.std.specs.Prelude.{◌≡◌, ℕ}
use Rattle.plant_types.specs.declared.power.NodePower.{NodePower}
use Rattle.plant_types.specs.Power.{nodes_of, bits_of}
use Rattle.plant_types.specs.Store.{Contents, Keeps}

-- The nodes that a block gives power, and the contents that it leaves.
pub record Effect : Type 0 where
  pub outputs : NodePower
  pub stored : Contents

-- A call has this effect on a store: it answers the power of the nodes as bits, leaves these
-- contents, and no reference of the store goes.
pub record Does (effect : Contents → Effect) (answer : ℕ) (old new : Contents) : Type 0 where
  pub outputs : answer ≡ bits_of (effect old).outputs
  pub stored : new ≡ (effect old).stored
  pub keeps : Keeps old new

-- A call has this effect on a store with the power at its nodes that bits tell.
abbrev pub Acts : (NodePower → Contents → Effect) → ℕ → ℕ → Contents → Contents → Type 0
Acts effect inputs answer old new = Does (effect (nodes_of inputs)) answer old new
