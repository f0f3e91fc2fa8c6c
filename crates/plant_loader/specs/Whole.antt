-- Where the stations and the bridges of a plant stand, and the plant as a whole. This project's
-- own.
use Rattle.std.specs.Prelude.{ℕ, ◌==◌, List, [], ◌∷◌, ◌++◌, map, filter, flat_map, Result}
use Rattle.std.specs.List.{list_any}
use Rattle.plant_types.specs.declared.net.NetPlan.{NetPlan}
use Rattle.plant_types.specs.declared.net.BridgePlan.{BridgePlan}
use Rattle.plant_types.specs.declared.net.HostPlan.{HostPlan}
use Rattle.plant_types.specs.declared.plan.ControllerPlan.{ControllerPlan}
use Rattle.plant_types.specs.declared.plan.Plant.{Plant}
use Rattle.plant_types.specs.declared.fault.PlantFault.TheVariants.{BadNetwork}
use Rattle.cell_text.specs.Steps.{unless}
use Rattle.plant_tables.specs.declared.net.NetRules.{NetRules}
use Rattle.plant_tables.specs.declared.net.NetTable.{NetTable}
use Rattle.plant_loader.specs.declared.addresses.Address.{Address}
use Rattle.plant_tables.specs.Refusals.{Refusal, network_place}
use Rattle.plant_tables.specs.InOrder.{each_passes}
use Rattle.plant_loader.specs.Rising.{by_node, by_network}
use Rattle.plant_tables.specs.Net.{Nets}

-- The address of a node on a network.
abbrev pub address_on : ℕ → ℕ → Address
address_on network node = record { network = network; node = node }

-- The addresses of controllers and of hosts, in file order.
abbrev pub station_addresses : List ControllerPlan → List HostPlan → List Address
station_addresses controllers hosts =
    map (λ plan. address_on plan.network plan.node) controllers
    ++ map (λ host. address_on host.network host.node) hosts

-- The addresses of the two ends of each bridge, in file order.
abbrev pub end_addresses : List BridgePlan → List Address
end_addresses bridges =
    flat_map (λ bridge. address_on bridge.left_net bridge.left
    ∷ address_on bridge.right_net bridge.right ∷ []) bridges

-- The nodes on a network among these addresses, rising.
abbrev pub nodes_on : ℕ → List Address → List ℕ
nodes_on network addresses =
    by_node (λ node. node)
    (map (λ at. at.node) (filter (λ at. at.network == network) addresses))

-- A network, counted from 1 in file order, has a controller or a host.
abbrev pub has_station : List Address → ℕ → NetTable → Result (Unit {0}) Refusal
has_station stations number net =
    unless (list_any (λ at. at.network == net.number) stations) (BadNetwork, network_place number)

-- So has each network.
abbrev pub have_stations : List Address → List NetTable → Result (Unit {0}) Refusal
have_stations stations nets = each_passes (has_station stations) 1 nets

-- The network of a table among all addresses and those of the ends of bridges: its members are the
-- nodes on it.
abbrev pub net_from : NetRules → List Address → List Address → NetTable → NetPlan
net_from rules all ends net = record {
  number = net.number;
  members = nodes_on net.number all;
  bridges = nodes_on net.number ends;
  fates = net.fates;
  answer = rules.answer;
  rotations = rules.rotations;
  rounds = rules.rounds;
  holds = rules.holds;
}

-- The networks of a plant with these addresses, rising by number.
abbrev pub nets_by_number : Nets → List Address → List Address → List NetPlan
nets_by_number nets all ends =
    map (net_from nets.rules all ends) (by_network (λ net. net.number) nets.tables)

-- All addresses of a plant, in file order: those of its stations, then those of the ends of its
-- bridges.
abbrev pub all_addresses : List ControllerPlan → List HostPlan → List BridgePlan → List Address
all_addresses controllers hosts bridges =
    station_addresses controllers hosts ++ end_addresses bridges

-- The plant of networks, controllers, hosts and bridges in file order: in it networks rise by
-- number, controllers and hosts by node, and bridges by the address on their left.
abbrev pub plant_from : ℕ → ℕ → Nets → List ControllerPlan → List HostPlan → List BridgePlan
    → Plant
plant_from scan_time watchdog nets controllers hosts bridges = record {
  scan_time = scan_time;
  watchdog = watchdog;
  nets = nets_by_number nets (all_addresses controllers hosts bridges) (end_addresses bridges);
  controllers = by_node (λ plan. plan.node) controllers;
  hosts = by_node (λ host. host.node) hosts;
  bridges = by_node (λ bridge. bridge.left) bridges;
}
