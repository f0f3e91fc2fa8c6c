-- The power at the nodes of a block, and the bits that tell it.
use Rattle.std.specs.Prelude.{ℕ, ◌+◌, ◌*◌, ◌/◌, ◌%◌, Bool, true, false, ◌==◌, if◌then◌else◌}
use Rattle.plant_types.specs.declared.power.NodePower.{NodePower}

-- Bit 0 is the top node, bit 1 the second, bit 2 the third. This project's own.
abbrev pub nodes_of : ℕ → NodePower
nodes_of bits =
    record { top = bits % 2 == 1; middle = bits / 2 % 2 == 1; bottom = bits / 4 % 2 == 1 }

-- One for on, nothing for off. This project's own.
abbrev pub bit_of : Bool → ℕ
bit_of on = if on then 1 else 0

-- The bits of the nodes that have power. This project's own.
abbrev pub bits_of : NodePower → ℕ
bits_of nodes = bit_of nodes.top + 2 * bit_of nodes.middle + 4 * bit_of nodes.bottom

-- No output is on. This project's own.
abbrev pub no_output : NodePower
no_output = record { top = false; middle = false; bottom = false }

-- One output is on: the top one, the middle one, the bottom one. This project's own.
abbrev pub top_output : NodePower
top_output = record no_output { top = true }

abbrev pub middle_output : NodePower
middle_output = record no_output { middle = true }

abbrev pub bottom_output : NodePower
bottom_output = record no_output { bottom = true }
