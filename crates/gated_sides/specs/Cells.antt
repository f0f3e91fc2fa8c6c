-- What stands behind a gate. This project's own.
use Rattle.std.specs.Prelude.{ℕ}
use Rattle.controller_core.specs.declared.entry.Entry.{Entry}
use Rattle.controller_core.specs.declared.entry.Maker.{Maker}
use Rattle.controller_core.specs.declared.entry.Maker.TheVariants.{Scan, Communication}
use Rattle.controller_core.specs.Controller.{ControllerIs}
use Rattle.controller_core.specs.Event.{maker_of}
use Rattle.ring_core.specs.Kept.{KeptRing}
use Rattle.gated_sides.specs.declared.cells.RamCell.{RamCell}
use Rattle.gated_sides.specs.declared.cells.RingCell.{RingCell}
use Rattle.bridge_relay.specs.Bridge.{BridgeIs}
use Rattle.gated_sides.specs.declared.cells.BridgeCell.{BridgeCell}

-- The controller behind a gate.
abbrev pub controller_in : RamCell → ControllerIs
controller_in c = c.controller

-- The cell with another controller.
abbrev pub with_controller : RamCell → ControllerIs → RamCell
with_controller c x = record c { controller = x }

-- The ring behind a gate.
abbrev pub ring_in : RingCell → KeptRing
ring_in c = c.ring

-- The cell with another ring.
abbrev pub with_ring : RingCell → KeptRing → RingCell
with_ring c x = record c { ring = x }

-- The bridge behind a gate.
abbrev pub bridge_in : BridgeCell → BridgeIs
bridge_in c = c.bridge

-- The cell with another bridge.
abbrev pub with_bridge : BridgeCell → BridgeIs → BridgeCell
with_bridge c x = record c { bridge = x }

-- Behind a controller's gate the scan makes entries under the number 1, its communication under 2.
abbrev pub number_of_maker : Maker → ℕ
number_of_maker Scan = 1
number_of_maker Communication = 2

abbrev pub maker_number : Entry → ℕ
maker_number entry = number_of_maker (maker_of entry)
