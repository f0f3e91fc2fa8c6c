-- Which networks, hosts and plants can be run. Node addresses are those of the Modbus Plus Network
-- Planning and Installation Guide; all else is this project's own.
use Rattle.std.specs.Prelude.{◌≡◌, ◌≢◌, ◌≤◌, ◌==◌, ℕ, Bool, false, cond, nat_lt, nat_eq, List, []}
use Rattle.std.specs.Prelude.{◌∷◌, ◌++◌, length, map, filter, flat_map, Some, Ok, slice_get}
use Rattle.std.specs.Prelude.{slice_index_or, unwrap_or, IsPermutation}
use Rattle.std.specs.List.{All, Contains, IsDistinct, find, list_any}
use Rattle.std.specs.List.Sorted.{IsStrictlyIncreasing}
use Rattle.plant_types.specs.declared.net.NetPlan.{NetPlan}
use Rattle.plant_types.specs.declared.net.BridgePlan.{BridgePlan}
use Rattle.plant_types.specs.declared.net.HostAsk.{HostAsk}
use Rattle.plant_types.specs.declared.net.HostPlan.{HostPlan}
use Rattle.plant_types.specs.declared.plan.ControllerPlan.{ControllerPlan}
use Rattle.plant_types.specs.declared.plan.Plant.{Plant}
use Rattle.plant_types.specs.FirstFault.{first_failed}
use Rattle.plant_types.specs.Limits.{controller_limit, host_limit, bridge_limit, net_limit}
use Rattle.plant_types.specs.Limits.{most_address, scan_time_limit}
use Rattle.plant_types.specs.Limits.{watchdog_limit, fate_limit, answer_limit, rotation_limit}
use Rattle.plant_types.specs.Limits.{round_limit, hold_limit, request_limit, due_limit}
use Rattle.plant_types.specs.PlanTests.{controller_tests}

-- A number is from a least one to a largest one.
pub record IsFromTo (least most number : ℕ) : Type 0 where
  pub from : least ≤ number
  pub to : number ≤ most

-- An address of a node.
abbrev pub IsNode : ℕ → Type 0
IsNode node = IsFromTo 1 most_address node

-- Whether routes may lead over bridges: on a network that has a number, so not in a plant file of
-- version 1, where it is 0.
abbrev pub is_routed : ℕ → Bool
is_routed network = nat_lt 0 network

-- A way from a node to another: at least one address, each of them one of a node, and the first not
-- the own one. Where routes lead over no bridge, there is one alone.
pub record IsRouteFrom (routed : Bool) (own : ℕ) (route : List ℕ) : Type 0 where
  pub some : 1 ≤ length route
  pub nodes : All IsNode route
  pub other : slice_get route 0 ≢ Some own
  pub alone : routed ≡ false → length route ≡ 1

-- The members of a network: one at least, each an address of a node, and they rise.
pub record AreMembers (nodes : List ℕ) : Type 0 where
  pub some : 1 ≤ length nodes
  pub each : All IsNode nodes
  pub rise : IsStrictlyIncreasing nodes

-- The ends of bridges on a network: some of its members, and they rise.
pub record AreBridges (members bridges : List ℕ) : Type 0 where
  pub among : All (Contains members) bridges
  pub rise : IsStrictlyIncreasing bridges

-- The numbers of a network are in their ranges.
pub record HasNetNumbers (net : NetPlan) : Type 0 where
  pub number : net.number ≤ net_limit
  pub answer : IsFromTo 2 answer_limit net.answer
  pub rotations : IsFromTo 1 rotation_limit net.rotations
  pub rounds : IsFromTo 1 round_limit net.rounds
  pub holds : IsFromTo 1 hold_limit net.holds

-- A network: its members, those of them that are ends of bridges, its fates and its numbers.
pub record IsNetPlan (net : NetPlan) : Type 0 where
  pub members : AreMembers net.members
  pub bridges : AreBridges net.members net.bridges
  pub fates : IsFromTo 1 fate_limit (length net.fates)
  pub numbers : HasNetNumbers net

-- A bridge: an end on each of two networks, both of which have a number.
pub record IsBridgePlan (bridge : BridgePlan) : Type 0 where
  pub left_net : IsFromTo 1 net_limit bridge.left_net
  pub right_net : IsFromTo 1 net_limit bridge.right_net
  pub two_nets : bridge.left_net ≢ bridge.right_net
  pub left : IsNode bridge.left
  pub right : IsNode bridge.right
  pub two_ends : bridge.left ≢ bridge.right

-- A request of a host: from when on it is due, and its way to another node.
pub record IsAskOf (host : HostPlan) (ask : HostAsk) : Type 0 where
  pub hold : IsFromTo 1 due_limit ask.hold
  pub route : IsRouteFrom (is_routed host.network) host.node ask.route

-- A host: its address, and its requests, no more than a host can have.
pub record IsHostPlan (host : HostPlan) : Type 0 where
  pub node : IsNode host.node
  pub few : length host.requests ≤ request_limit
  pub requests : All (IsAskOf host) host.requests

-- A controller passes its tests.
abbrev pub PassesTests : ControllerPlan → Type 0
PassesTests plan = first_failed (controller_tests plan) ≡ Ok tt

-- A controller keeps its power: it has no power rows.
abbrev pub KeepsPower : ControllerPlan → Type 0
KeepsPower plan = plan.power ≡ []

-- The addresses of controllers and of hosts.
abbrev pub controller_nodes : Plant → List ℕ
controller_nodes plant = map (λ plan. plan.node) plant.controllers

abbrev pub host_nodes : Plant → List ℕ
host_nodes plant = map (λ host. host.node) plant.hosts

-- The addresses of the two ends of each bridge.
abbrev pub end_nodes : Plant → List ℕ
end_nodes plant = flat_map (λ bridge. bridge.left ∷ bridge.right ∷ []) plant.bridges

-- The numbers of the networks.
abbrev pub net_numbers : Plant → List ℕ
net_numbers plant = map (λ net. net.number) plant.nets

-- The addresses that a bridge has on a network.
abbrev pub ends_of : ℕ → BridgePlan → List ℕ
ends_of network bridge =
    cond (bridge.left_net == network) (bridge.left ∷ []) []
    ++ cond (bridge.right_net == network) (bridge.right ∷ []) []

-- The addresses on a network of controllers, of hosts, and of ends of bridges.
abbrev pub controllers_on : Plant → ℕ → List ℕ
controllers_on plant network =
    map (λ plan. plan.node) (filter (λ plan. plan.network == network) plant.controllers)

abbrev pub hosts_on : Plant → ℕ → List ℕ
hosts_on plant network =
    map (λ host. host.node) (filter (λ host. host.network == network) plant.hosts)

abbrev pub ends_on : Plant → ℕ → List ℕ
ends_on plant network = flat_map (ends_of network) plant.bridges

-- A network of a plant: at least one controller or host is on it, and its members are those and the
-- ends of bridges on it, each once.
pub record IsNetOf (plant : Plant) (net : NetPlan) : Type 0 where
  pub plan : IsNetPlan net
  pub some : 1 ≤ length (controllers_on plant net.number ++ hosts_on plant net.number)
  pub members : IsPermutation (controllers_on plant net.number ++ hosts_on plant net.number
      ++ ends_on plant net.number) net.members
  pub bridges : IsPermutation (ends_on plant net.number) net.bridges

-- A bridge of a plant joins two of its networks.
pub record IsBridgeOf (plant : Plant) (bridge : BridgePlan) : Type 0 where
  pub plan : IsBridgePlan bridge
  pub left_there : Contains (net_numbers plant) bridge.left_net
  pub right_there : Contains (net_numbers plant) bridge.right_net

-- A plant: its networks rise by number, its controllers and its hosts by node, and its bridges by
-- left address; each controller and host is on one of its networks, each address stands once, and
-- each number is in its range. The tests of drops are not among these.
pub record IsPlant (plant : Plant) : Type 0 where
  pub scan_time : IsFromTo 1 scan_time_limit plant.scan_time
  pub watchdog : IsFromTo 1 watchdog_limit plant.watchdog
  pub nets : All (IsNetOf plant) plant.nets
  pub nets_rise : IsStrictlyIncreasing (net_numbers plant)
  pub count : IsFromTo 1 controller_limit (length plant.controllers)
  pub controllers : All PassesTests plant.controllers
  pub controllers_there : All (λ plan. Contains (net_numbers plant) plan.network)
      plant.controllers
  pub controllers_rise : IsStrictlyIncreasing (controller_nodes plant)
  pub few : length plant.hosts ≤ host_limit
  pub hosts : All IsHostPlan plant.hosts
  pub hosts_there : All (λ host. Contains (net_numbers plant) host.network) plant.hosts
  pub hosts_rise : IsStrictlyIncreasing (host_nodes plant)
  pub few_bridges : length plant.bridges ≤ bridge_limit
  pub bridges : All (IsBridgeOf plant) plant.bridges
  pub bridges_rise : IsStrictlyIncreasing (map (λ bridge. bridge.left) plant.bridges)
  pub once : IsDistinct nat_eq (controller_nodes plant ++ host_nodes plant ++ end_nodes plant)

-- No network.
abbrev pub no_net : NetPlan
no_net = record {
  number = 0;
  members = [];
  bridges = [];
  fates = [];
  answer = 0;
  rotations = 0;
  rounds = 0;
  holds = 0;
}

-- The network with the least number; without one, none is there.
abbrev pub first_net : Plant → NetPlan
first_net plant = slice_index_or plant.nets 0 no_net

-- A node is a member of a network.
abbrev pub has_member : ℕ → NetPlan → Bool
has_member node net = list_any (λ member. member == node) net.members

-- The network of which a node is a member; each node of a plant is one of just one. Another node has
-- none.
abbrev pub net_of : Plant → ℕ → NetPlan
net_of plant node = unwrap_or (find (has_member node) plant.nets) no_net
