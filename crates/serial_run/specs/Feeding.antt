-- The stations of a run of which a controller is fed a row, and what one of them has noted. This
-- project's own.
use Rattle.std.specs.Prelude.{◌≡◌, ℕ, ◌==◌, List, [], Option, Some, None, set}
use Rattle.std.specs.List.{All, find, position, slice_get}
use Rattle.plant_types.specs.declared.drops.ScriptRow.{ScriptRow}
use Rattle.controller_core.specs.declared.entry.Entry.{Entry}
use Rattle.controller_core.specs.Feeding.{feeding, CanFeed}
use Rattle.serial_run.specs.declared.stations.ControllerStation.{ControllerStation}
use Rattle.serial_run.specs.declared.stations.Stations.{Stations}

-- The station of a controller with one more row in the script of a drop.
abbrev pub station_fed : ℕ → ScriptRow → ControllerStation → ControllerStation
station_fed drop row station =
    record station { controller = feeding station.controller drop row }

-- The controller at a place was fed the row, and all else is as before.
pub record FedAt (at drop : ℕ) (row : ScriptRow) (old new : Stations) : Type 0 where
  pub station : ControllerStation
  pub station_is : slice_get old.controllers.items at ≡ Some station
  pub controllers : new.controllers.items
      ≡ set old.controllers.items at (station_fed drop row station)
  pub hosts : new.hosts ≡ old.hosts
  pub bridges : new.bridges ≡ old.bridges
  pub rings : new.rings ≡ old.rings

-- All stations are as before.
pub record AreAsBefore (old new : Stations) : Type 0 where
  pub controllers : new.controllers.items ≡ old.controllers.items
  pub hosts : new.hosts ≡ old.hosts
  pub bridges : new.bridges ≡ old.bridges
  pub rings : new.rings ≡ old.rings

-- The controller at a place was fed the row; nothing changed where there is no place.
abbrev pub FedIf : Option ℕ → ℕ → ScriptRow → Stations → Stations → Type 0
FedIf None drop row old new = AreAsBefore old new
FedIf (Some at) drop row old new = FedAt at drop row old new

-- The controller of a node was fed the row; nothing changed where no controller has the node.
abbrev pub FedNode : ℕ → ℕ → ScriptRow → Stations → Stations → Type 0
FedNode node drop row old new =
    FedIf (position (λ (station : ControllerStation). station.node == node) old.controllers.items)
    drop row old new

-- The controller of a node can be fed the row.
abbrev pub CanFeedNode : ℕ → ℕ → ScriptRow → Stations → Type 0
CanFeedNode node drop row run =
    All (λ (station : ControllerStation). station.node ≡ node
    → CanFeed station.controller drop row) run.controllers.items

-- The history of a station's controller; an empty one where there is no station.
abbrev pub history_if : Option ControllerStation → List Entry
history_if None = []
history_if (Some station) = station.controller.history

-- The history of the controller of a node; an empty one where no controller has it.
abbrev pub history_of : ℕ → Stations → List Entry
history_of node run = history_if
    (find (λ (station : ControllerStation). station.node == node) run.controllers.items)
