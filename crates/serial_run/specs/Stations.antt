-- What a run keeps of all stations of its plant. This project's own.
use Rattle.std.specs.Prelude.{◌≡◌, ℕ, ◌==◌, true, false, List, [], map, Option, Some, None}
use Rattle.std.specs.List.{All, AllZip, count_by, find}
use Rattle.plant_types.specs.declared.net.BridgePlan.{BridgePlan}
use Rattle.plant_types.specs.declared.net.HostPlan.{HostPlan}
use Rattle.plant_types.specs.declared.net.NetPlan.{NetPlan}
use Rattle.plant_types.specs.declared.plan.ControllerPlan.{ControllerPlan}
use Rattle.plant_types.specs.declared.plan.Plant.{Plant}
use Rattle.plant_types.specs.Plans.{IsPlant, first_net, net_of, no_net}
use Rattle.plant_types.specs.Store.{is_on}
use Rattle.ring_core.specs.declared.entry.RingEntry.{RingEntry}
use Rattle.ring_core.specs.Kept.{KeptRing}
use Rattle.ring_core.specs.Legal.{IsLegalRing}
use Rattle.controller_core.specs.declared.notes.Notes.{Notes}
use Rattle.controller_core.specs.Controller.{ControllerIs, IsLegal, store_of}
use Rattle.controller_core.specs.Notes.{notes_of}
use Rattle.joint_history.specs.declared.joint.ControllerLog.{ControllerLog}
use Rattle.joint_history.specs.declared.joint.BridgeLog.{BridgeLog}
use Rattle.joint_history.specs.declared.joint.HostLog.{HostLog}
use Rattle.joint_history.specs.declared.joint.RingLog.{RingLog}
use Rattle.joint_history.specs.declared.joint.Joint.{Joint}
use Rattle.summary_text.specs.Coils.{all_coils}
use Rattle.joint_history.specs.JointLaws.{fixed_of}
use Rattle.bridge_station.specs.Station.{end_station, log_of_bridge}
use Rattle.bridge_station.specs.Stands.{StandsEnd, StartsBridge}
use Rattle.comm_port.specs.Sides.{RamSideIs}
use Rattle.comm_port.specs.Worker.{Standing}
use Rattle.comm_port.specs.HostStands.{own_side}
use Rattle.comm_port.specs.HostTurns.{CountsPasses, HostTies}
use Rattle.serial_run.specs.declared.stations.BridgeSite.{BridgeSite}
use Rattle.serial_run.specs.declared.stations.ControllerStation.{ControllerStation}
use Rattle.serial_run.specs.declared.stations.HostStation.{HostStation}
use Rattle.serial_run.specs.declared.stations.RingStation.{RingStation}
use Rattle.serial_run.specs.declared.stations.Stations.{Stations}
use Rattle.serial_run.specs.Turns.{node_has_left, nothing_made}
use Rattle.serial_run.specs.Scans.{AreBetweenScans}
use Rattle.bridge_station.specs.TurnLaws.{HostKeepsOn, KeepsOn}

-- The log of a station.
abbrev pub log_of : ControllerStation → ControllerLog
log_of station = record { node = station.node; entries = station.controller.history }

-- What the controller of a station noted of its panel.
abbrev pub station_notes : ControllerStation → Notes
station_notes station = notes_of station.controller.fixed station.controller.history

-- How many coils of a controller are on, by its plan and its station.
abbrev pub station_coils : ControllerPlan × ControllerStation → ℕ
station_coils of = count_by (is_on (store_of of.1.controller)) (all_coils of.0)

abbrev pub host_log_of : HostStation → HostLog
host_log_of station = record { node = station.node; entries = station.host.history }

-- The log of a bridge, and that of a ring.
abbrev pub log_of_site : BridgeSite → BridgeLog
log_of_site site = log_of_bridge site.station

abbrev pub log_of_ring : RingStation → RingLog
log_of_ring station = record { network = station.network; entries = station.ring.history }

-- The joint history that the stations have made so far.
abbrev pub joint_of : Stations → Joint
joint_of run = record {
  controllers = map log_of run.controllers.items;
  hosts = map host_log_of run.hosts.items;
  bridges = map log_of_site run.bridges.items;
  rings = map log_of_ring run.rings.items;
}

-- ---- The ring of a network.

-- What stands for the network of a number, if there is one.
abbrev pub station_on : List RingStation → ℕ → Option RingStation
station_on rings network = find (λ (station : RingStation). station.network == network) rings

-- A ring of nobody, which stands for the ring of a network that is not there.
abbrev pub no_ring : KeptRing
no_ring = record { net = no_net; history = []; spare = 0 }

-- The ring of what stands for a network, or that of nobody.
abbrev pub ring_if : Option RingStation → KeptRing
ring_if None = no_ring
ring_if (Some station) = station.ring

-- The ring of the network of a number.
abbrev pub ring_on : List RingStation → ℕ → KeptRing
ring_on rings network = ring_if (station_on rings network)

abbrev pub station_ring : Stations → ℕ → KeptRing
station_ring run network = ring_on run.rings.items network

-- ---- How stations stand.

-- A controller as the side of a worker, where nobody else writes.
abbrev pub plain_ram_side : ControllerIs → RamSideIs Unit
plain_ram_side controller = record { fixed = controller.fixed; place = tt }

-- A controller's station stands between its turns.
pub record StandsController (plant : Plant) (scans : ℕ) (ring : List RingEntry)
    (plan : ControllerPlan) (station : ControllerStation) : Type 0 where
  pub node : station.node ≡ plan.node
  pub network : station.network ≡ plan.network
  pub worker_node : station.worker.node ≡ plan.node
  pub budget : station.worker.budget ≡ true
  pub fixed : station.controller.fixed ≡ fixed_of plant scans plan
  pub legal : IsLegal station.controller.fixed station.controller.history
  pub standing : Standing station.worker (plain_ram_side station.controller)
      station.controller.history (own_side (net_of plant plan.node)) ring
  pub left : station.left ≡ node_has_left (net_of plant plan.node) ring plan.node
  pub keeps : KeepsOn (fixed_of plant scans plan) (net_of plant plan.node) plan.node
      station.controller.history ring station.left

-- A host's station stands between its turns.
pub record StandsHost (plant : Plant) (ring : List RingEntry) (plan : HostPlan)
    (station : HostStation) : Type 0 where
  pub node : station.node ≡ plan.node
  pub network : station.network ≡ plan.network
  pub worker_node : station.worker.node ≡ plan.node
  pub budget : station.worker.budget ≡ true
  pub plan_is : station.host.plan ≡ plan
  pub ties : HostTies plan.node station.host (own_side (net_of plant plan.node)) ring
  pub counts : CountsPasses station.worker ring
  pub left : station.left ≡ node_has_left (net_of plant plan.node) ring plan.node
  pub keeps : HostKeepsOn plan (net_of plant plan.node) station.host.history ring station.left

-- A bridge stands between its turns: each of its ends does, on the ring of its own network.
pub record StandsSite (plant : Plant) (rings : List RingStation) (plan : BridgePlan)
    (site : BridgeSite) : Type 0 where
  pub plan_is : site.plan ≡ plan
  pub bridge_is : site.station.bridge.plan ≡ plan
  pub left_budget : (end_station plan.left site.station).worker.budget ≡ true
  pub right_budget : (end_station plan.right site.station).worker.budget ≡ true
  pub left : StandsEnd plan.left site.station (net_of plant plan.left)
      (ring_on rings plan.left_net).history
  pub right : StandsEnd plan.right site.station (net_of plant plan.right)
      (ring_on rings plan.right_net).history

-- The ring of a network stands: its list is a legal one.
pub record StandsRing (net : NetPlan) (station : RingStation) : Type 0 where
  pub network : station.network ≡ net.number
  pub members : station.members ≡ net.members
  pub net_is : station.ring.net ≡ net
  pub legal : IsLegalRing net station.ring.history

-- A station stands on the ring of its own network.
abbrev pub StandsOn : Plant → ℕ → List RingStation → ControllerPlan → ControllerStation → Type 0
StandsOn plant scans rings plan station =
    StandsController plant scans (ring_on rings plan.network).history plan station

abbrev pub HostStandsOn : Plant → List RingStation → HostPlan → HostStation → Type 0
HostStandsOn plant rings plan station =
    StandsHost plant (ring_on rings plan.network).history plan station

-- All stations stand between their turns, those of the plant in its order.
pub record StandAll (plant : Plant) (scans : ℕ) (run : Stations) : Type 0 where
  pub sound : IsPlant plant
  pub rings : AllZip StandsRing plant.nets run.rings.items
  pub controllers : AllZip (StandsOn plant scans run.rings.items) plant.controllers
      run.controllers.items
  pub hosts : AllZip (HostStandsOn plant run.rings.items) plant.hosts run.hosts.items
  pub bridges : AllZip (StandsSite plant run.rings.items) plant.bridges run.bridges.items

-- The stations are those of some plant.
pub record Stand (run : Stations) : Type 0 where
  pub plant : Plant
  pub scans : ℕ
  pub all : StandAll plant scans run

-- What some turns made of the joint history of stations, which still stand.
pub record Did (Made : Plant → ℕ → Joint → Joint → Type 0) (old new : Stations) : Type 0 where
  pub stand : (plant : Plant) (scans : ℕ) → StandAll plant scans old → StandAll plant scans new
  pub made : (plant : Plant) (scans : ℕ) → StandAll plant scans old
      → Made plant scans (joint_of old) (joint_of new)

-- What some turns did to the joint history of stations, for plants with so many rotations.
abbrev pub DidWith : ℕ → (Plant → ℕ → Joint → Joint → Type 0) → Stations → Stations → Type 0
DidWith rotations Made old new = Did
    (λ plant scans before behind.
    (first_net plant).rotations ≡ rotations → Made plant scans before behind)
    old new

-- A station at the start of a run, before anything was made.
pub record StartsController (plant : Plant) (scans : ℕ) (plan : ControllerPlan)
    (station : ControllerStation) : Type 0 where
  pub stands : StandsController plant scans [] plan station
  pub nothing : station.controller.history ≡ []
  pub here : station.left ≡ false

pub record StartsHost (plant : Plant) (plan : HostPlan) (station : HostStation) : Type 0 where
  pub stands : StandsHost plant [] plan station
  pub nothing : station.host.history ≡ []

pub record StartsBridgeSite (plant : Plant) (plan : BridgePlan) (site : BridgeSite) : Type 0 where
  pub plan_is : site.plan ≡ plan
  pub starts : StartsBridge plan (net_of plant plan.left) (net_of plant plan.right) true
      site.station

pub record StartsRing (net : NetPlan) (station : RingStation) : Type 0 where
  pub network : station.network ≡ net.number
  pub members : station.members ≡ net.members
  pub ring : station.ring ≡ record { net = net; history = []; spare = 0 }

abbrev pub StartControllers : Plant → ℕ → List ControllerStation → Type 0
StartControllers plant scans stations =
    AllZip (StartsController plant scans) plant.controllers stations

abbrev pub StartHosts : Plant → List HostStation → Type 0
StartHosts plant stations = AllZip (StartsHost plant) plant.hosts stations

abbrev pub StartBridges : Plant → List BridgeSite → Type 0
StartBridges plant sites = AllZip (StartsBridgeSite plant) plant.bridges sites

abbrev pub StartRings : Plant → List RingStation → Type 0
StartRings plant rings = AllZip StartsRing plant.nets rings

pub record Starts (plant : Plant) (scans : ℕ) (run : Stations) : Type 0 where
  pub stand : StandAll plant scans run
  pub nothing : joint_of run ≡ nothing_made plant
  pub between : AreBetweenScans run
  pub here : All (λ (station : ControllerStation). station.left ≡ false) run.controllers.items
