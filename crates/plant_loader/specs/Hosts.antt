-- The hosts of a plant by their tables. This project's own.
use Rattle.std.specs.Prelude.{codes, ℕ, Bool, not, ◌||◌, ◌==◌, List, [], Result, Ok}
use Rattle.std.specs.List.{list_any}
use Rattle.toml.specs.Data.{Members}
use Rattle.plant_types.specs.declared.net.HostAsk.{HostAsk}
use Rattle.plant_types.specs.declared.net.HostPlan.{HostPlan}
use Rattle.plant_types.specs.declared.plan.ControllerPlan.{ControllerPlan}
use Rattle.plant_types.specs.declared.fault.PlantFault.TheVariants.{BadNode, BadNetwork}
use Rattle.plant_types.specs.Limits.{request_limit}
use Rattle.cell_text.specs.Steps.{◌>>=◌, or_fault, unless}
use Rattle.plant_tables.specs.declared.net.NetTable.{NetTable}
use Rattle.plant_tables.specs.declared.tables.Version.{Version}
use Rattle.plant_tables.specs.Refusals.{Refusal, host_table_place}
use Rattle.plant_tables.specs.declared.tables.TableKind.TheVariants as kinds
use Rattle.plant_tables.specs.Tables.{table_passes}
use Rattle.plant_tables.specs.Keys.{address_at, texts_at}
use Rattle.plant_tables.specs.InOrder.{with_positions, each_behind}
use Rattle.plant_tables.specs.Net.{network_at}
use Rattle.controller_tables.specs.Stations.{has_controller}
use Rattle.plant_loader.specs.Requests.{requests_of}

-- One of these hosts has this node.
abbrev pub has_host : List HostPlan → ℕ → Bool
has_host hosts node = list_any (λ host. host.node == node) hosts

-- A host from its parts.
abbrev pub host_from : ℕ → ℕ → List HostAsk → HostPlan
host_from node network requests =
    record { node = node; network = network; requests = requests }

-- The host of a table behind the controllers and the hosts before it: its table, then its node,
-- which none of them has, then its network, which is one of these, then its requests.
unfoldable pub host_behind : Version → List NetTable → List ControllerPlan → List HostPlan
    → ℕ × Members
    → Result HostPlan Refusal
host_behind version nets controllers earlier table = do
  place ← Ok (host_table_place table.0)
  keys ← table_passes place (kinds.Host version) table.1
  node ← address_at place table.1
  named ← network_at version nets place table.1
  texts ← texts_at place request_limit (codes "requests") table.1
  fresh ← unless (not (has_controller controllers node || has_host earlier node)) (BadNode, place)
  network ← or_fault (BadNetwork, place) named
  requests ← requests_of version node table.0 texts
  Ok (host_from node network requests)

-- The hosts of a plant on these networks, in file order.
abbrev pub hosts_of : Version → List NetTable → List ControllerPlan → List Members
    → Result (List HostPlan) Refusal
hosts_of version nets controllers tables =
    each_behind (host_behind version nets controllers) [] (with_positions tables)
