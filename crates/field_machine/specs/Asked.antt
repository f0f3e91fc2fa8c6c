-- What must never be. All of it is this project's own.
use Rattle.std.specs.Prelude.{◌≡◌, ◌==◌, Bool, true, ◌&&◌, not}
use Rattle.plant_types.specs.Reference.{is_discrete}
use Rattle.plant_types.specs.Sizes.{Sizes, has_reference}
use Rattle.plant_types.specs.Store.{is_on}
use Rattle.controller_core.specs.Replay.{ControllerState}
use Rattle.field_machine.specs.declared.asked.Asked.{Asked}
use Rattle.field_machine.specs.declared.asked.Asked.TheVariants.{On, Stopped}

-- What is asked is so in a state: the coil or input is on, or the controller has stopped.
abbrev pub is_so : Asked → ControllerState → Bool
is_so (On at) s = is_on s.solving.map at
is_so Stopped s = not (s.stop == 0)

-- A controller with references of these sizes can be asked it: it has the coil or input.
abbrev pub can_ask : Sizes → Asked → Bool
can_ask sizes (On at) = has_reference sizes at && is_discrete at.kind
can_ask sizes Stopped = true

abbrev pub CanBeAsked : Sizes → Asked → Type 0
CanBeAsked sizes asked = can_ask sizes asked ≡ true
