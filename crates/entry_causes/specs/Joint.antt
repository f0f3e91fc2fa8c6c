-- The lists of a joint history, and the order of the entries of each of its rings and of the
-- stations there. This project's own.
use Rattle.std.specs.Prelude.{ℕ, List, ◌++◌, ◌==◌, filter, map}
use Rattle.std.specs.List.{All, zip}
use Rattle.ring_core.specs.Words.{maker}
use Rattle.ring_core.specs.declared.entry.RingEntry.{RingEntry}
use Rattle.plant_types.specs.declared.plan.Plant.{Plant}
use Rattle.plant_types.specs.Plans.{IsPlant}
use Rattle.net_laws.specs.TiedLists.{own}
use Rattle.net_laws.specs.JointHistory.{noted_on_rings, ControllerLog, HostLog, IsLegalJoint, Joint}
use Rattle.net_laws.specs.JointHistory.{RingLog}
use Rattle.one_order.specs.Orders.{Log, HasOneOrder}
use Rattle.entry_causes.specs.Causes.{StationEntry, ByController, ByHost, no_notes, no_deeds}
use Rattle.entry_causes.specs.Causes.{note, deed, AreCaused}
use Rattle.entry_causes.specs.InTime.{InTime, HostInTime}

-- The list of a controller, under its node.
abbrev pub controller_log : ControllerLog → Log StationEntry
controller_log log = record { node = log.node; entries = map ByController log.entries }

-- The list of a host, under its node.
abbrev pub host_log : HostLog → Log StationEntry
host_log log = record { node = log.node; entries = map ByHost log.entries }

-- The lists of all stations.
abbrev pub logs_of : Joint → List (Log StationEntry)
logs_of joint = map controller_log joint.controllers ++ map host_log joint.hosts

-- The lists beside the plans that are on a network.
abbrev pub logs_on : {P L : Type 0} → (P → ℕ) → ℕ → List P → List L → List L
logs_on network_of network plans logs =
    map (λ of. of.1) (filter (λ of. network_of of.0 == network) (zip plans logs))

-- The lists of the stations that are on a network.
abbrev pub stations_on : Plant → ℕ → Joint → List (Log StationEntry)
stations_on plant network joint =
    map controller_log
    (logs_on (λ plan. plan.network) network plant.controllers joint.controllers)
    ++ map host_log (logs_on (λ plan. plan.network) network plant.hosts joint.hosts)

-- A ring and the stations on its network have one order in time of all their entries, in which each
-- stands after its cause.
abbrev pub RingIsInOneOrder : Plant → Joint → RingLog → Type 0
RingIsInOneOrder plant joint ring =
    HasOneOrder maker note deed AreCaused no_notes no_deeds ring.entries
    (stations_on plant ring.network joint)

-- Each ring of a joint history and the stations on its network have one order in time, in which
-- each entry stands after its cause.
abbrev pub IsInOneOrder : Plant → Joint → Type 0
IsInOneOrder plant joint = All (RingIsInOneOrder plant joint) joint.rings

-- A controller is in time with its node on the ring, and a host is.
abbrev pub IsControllerInTime : List RingEntry → ControllerLog → Type 0
IsControllerInTime ring log = InTime log.entries (own log.node ring)

abbrev pub IsHostInTime : List RingEntry → HostLog → Type 0
IsHostInTime ring log = HostInTime log.entries (own log.node ring)

-- Each station of a joint history is in time with its node on the ring.
pub record StationsAreInTime (joint : Joint) : Type 0 where
  pub controllers : All (IsControllerInTime (noted_on_rings joint)) joint.controllers
  pub hosts : All (IsHostInTime (noted_on_rings joint)) joint.hosts

-- Where each station is in time with its node, each ring of a plant has one order with its
-- stations.
abbrev pub JointIsInOneOrder : Type 0
JointIsInOneOrder = (plant : Plant) (scans : ℕ) (joint : Joint) → IsPlant plant
    → IsLegalJoint plant scans joint → StationsAreInTime joint → IsInOneOrder plant joint
