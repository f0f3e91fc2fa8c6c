-- The plant that the bytes of a plant file stand for, or why they are refused. This project's own.
use Rattle.std.specs.Prelude.{codes, ℕ, ◌≤◌, ℤ, pos, negsuc, Bool, true, false, ◌==◌, not, Some}
use Rattle.std.specs.Prelude.{if◌then◌else◌, List, [], length, Option, None, Result, Ok}
use Rattle.std.specs.Str.{is_utf8}
use Rattle.toml.specs.Data.{Members, get_member, as_integer}
use Rattle.toml.specs.Parse.{parse_document}
use Rattle.plant_types.specs.declared.plan.Plant.{Plant}
use Rattle.plant_types.specs.declared.fault.PlantFault.TheVariants.{BadKey, BadValue, BadVersion}
use Rattle.plant_types.specs.declared.fault.Place.{Place}
use Rattle.plant_types.specs.Limits.{controller_limit, host_limit, bridge_limit, net_limit}
use Rattle.plant_types.specs.Limits.{scan_time_limit, watchdog_limit}
use Rattle.cell_text.specs.Steps.{◌>>=◌, or_fault, unless}
use Rattle.plant_tables.specs.Given.{texts_in, tables_in, table_in}
use Rattle.plant_tables.specs.Refusals.{Refusal, plant_place, bad_toml}
use Rattle.plant_tables.specs.Tables.{table_passes}
use Rattle.plant_tables.specs.Keys.{number_at_or, table_at, tables_at, texts_at}
use Rattle.plant_loader.specs.declared.top.TopTable.{TopTable as FoundTable}
use Rattle.plant_tables.specs.declared.tables.Version.{Version}
use Rattle.plant_tables.specs.declared.tables.Version.TheVariants.{One, Two}
use Rattle.plant_tables.specs.declared.tables.TableKind.TheVariants as kinds
use Rattle.plant_tables.specs.Net.{nets_of}
use Rattle.controller_tables.specs.Stations.{controllers_of}
use Rattle.plant_loader.specs.Hosts.{hosts_of}
use Rattle.plant_loader.specs.Bridges.{bridges_of}
use Rattle.plant_loader.specs.Whole.{station_addresses, have_stations, plant_from}

-- The document that bytes are, where they are one: UTF-8 text of TOML.
abbrev pub document_of : List ℕ → Option Members
document_of bytes = if is_utf8 bytes then parse_document bytes else None

-- The version of a number, where it is one of a version.
abbrev pub version_from : ℤ → Option Version
version_from (pos n) = if n == 1 then Some One else if n == 2 then Some Two else None
version_from (negsuc n) = None

-- A version is read, where the first one here is the newest that is.
abbrev pub is_read : Version → Version → Bool
is_read One Two = false
is_read newest version = true

-- The version that a document names.
unfoldable pub version_of : Version → Members → Result Version Refusal
version_of newest top = do
  d ← or_fault (BadKey, plant_place) (get_member (codes "version") top)
  number ← or_fault (BadValue, plant_place) (as_integer d)
  version ← or_fault (BadVersion, plant_place) (version_from number)
  read ← unless (is_read newest version) (BadVersion, plant_place)
  Ok version

-- The tables of the array at a key, which must have one at least.
abbrev pub some_tables_at : Place → ℕ → List ℕ → Members → Result (List Members) Refusal
some_tables_at place most key ms = do
  tables ← tables_at place most key ms
  some ← unless (not (length tables == 0)) (BadValue, place)
  Ok tables

-- The tables of the networks of a plant, which stand in version 2 alone.
abbrev pub network_tables : Version → Members → Result (List Members) Refusal
network_tables One top = Ok []
network_tables Two top = some_tables_at plant_place net_limit (codes "network") top

-- The texts of its bridges, which stand there alone too.
abbrev pub bridge_texts : Version → Members → Result (List (List ℕ)) Refusal
bridge_texts One top = Ok []
bridge_texts Two top = texts_at plant_place bridge_limit (codes "bridges") top

-- The table of the file as a whole: how far the clock goes on at a scan and how many networks a
-- scan may begin, then the tables of what all networks share, of each network, of controllers and
-- of hosts, and the texts of bridges.
pub record TopTable : Type 0 where
  pub scan_time : ℕ
  pub watchdog : ℕ
  pub shared : Option Members
  pub networks : List Members
  pub controllers : List Members
  pub hosts : List Members
  pub bridges : List (List ℕ)

abbrev pub top_from : ℕ → ℕ → Option Members → List Members → List Members → List Members
    → List (List ℕ) → TopTable
top_from scan_time watchdog shared networks controllers hosts bridges = record {
  scan_time = scan_time;
  watchdog = watchdog;
  shared = shared;
  networks = networks;
  controllers = controllers;
  hosts = hosts;
  bridges = bridges;
}

abbrev pub read_top : FoundTable → TopTable
read_top found =
    top_from found.scan_time found.watchdog (table_in found.shared)
    (tables_in found.networks.items) (tables_in found.controllers.items)
    (tables_in found.hosts.items) (texts_in found.bridges.items)

-- The tables and the texts are as many as a plant has at most.
pub record HasFewTables (found : FoundTable) : Type 0 where
  pub networks : length found.networks.items ≤ net_limit
  pub controllers : length found.controllers.items ≤ controller_limit
  pub hosts : length found.hosts.items ≤ host_limit
  pub bridges : length found.bridges.items ≤ bridge_limit

-- The table of a document of a version: a scan time of 1 to 1000 ticks, by default 10, a watchdog
-- of 1 to 10,000 networks, by default 500, and the tables and the texts of the rest.
unfoldable pub top_at : Version → Members → Result TopTable Refusal
top_at version top = do
  keys ← table_passes plant_place (kinds.Plant version) top
  scan_time ← number_at_or plant_place (codes "scan_time") 10 1 scan_time_limit top
  watchdog ← number_at_or plant_place (codes "watchdog") 500 1 watchdog_limit top
  shared ← table_at plant_place (codes "net") top
  networks ← network_tables version top
  controllers ← some_tables_at plant_place controller_limit (codes "controller") top
  hosts ← tables_at plant_place host_limit (codes "host") top
  bridges ← bridge_texts version top
  Ok (top_from scan_time watchdog shared networks controllers hosts bridges)

-- The plant of these tables and texts: its networks, its controllers, its hosts and its bridges,
-- and last of all each network has a controller or a host.
unfoldable pub plant_with : Version → TopTable → Result Plant Refusal
plant_with version top = do
  nets ← nets_of version top.shared top.networks
  controllers ← controllers_of version nets.tables top.controllers
  hosts ← hosts_of version nets.tables controllers top.hosts
  stations ← Ok (station_addresses controllers hosts)
  bridges ← bridges_of nets.tables stations top.bridges
  there ← have_stations stations nets.tables
  Ok (plant_from top.scan_time top.watchdog nets controllers hosts bridges)

-- The plant of a document of a version.
unfoldable pub plant_in : Version → Members → Result Plant Refusal
plant_in version top = do
  table ← top_at version top
  plant_with version table

-- The plant of a document, whose version is tested before all else.
unfoldable pub plant_at : Version → Members → Result Plant Refusal
plant_at newest top = do
  version ← version_of newest top
  plant_in version top

-- The plant of the bytes of a plant file, or the first fault with its place; files of a newer
-- version than this are refused.
unfoldable pub plant_of : Version → List ℕ → Result Plant Refusal
plant_of newest bytes = or_fault bad_toml (document_of bytes) >>= plant_at newest
