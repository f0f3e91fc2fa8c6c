-- A plant that is loaded can be run.
use Rattle.std.proofs.Common.{◌≡◌, ℕ, ◌≤◌, ◌==◌, true, not, List, [], ◌∷◌, length, map, Result}
use Rattle.std.proofs.Common.{Ok, Err, refl, sym, ap, subst, ◌∙◌, arith}
use Rattle.std.specs.Prelude.{codes, nat_eq}
use Rattle.std.specs.List.{list_any, All, IsDistinct}
use Rattle.std.specs.Result.{IfOk}
use Rattle.std.proofs.lemmas.Bool.Decides.{nat_tests}
use Rattle.std.proofs.lemmas.List.{map-append}
use Rattle.toml.specs.Data.{Members, get_member, as_integer}
use Rattle.plant_types.specs.declared.net.BridgePlan.{BridgePlan}
use Rattle.plant_types.specs.declared.net.HostPlan.{HostPlan}
use Rattle.plant_types.specs.declared.plan.ControllerPlan.{ControllerPlan}
use Rattle.plant_types.specs.declared.plan.Plant.{Plant}
use Rattle.plant_types.specs.declared.fault.PlantFault.TheVariants.{BadKey, BadValue, BadNetwork}
use Rattle.plant_types.specs.declared.fault.PlantFault.TheVariants.{BadVersion}
use Rattle.plant_types.specs.declared.fault.Place.{Place}
use Rattle.plant_types.specs.Limits.{controller_limit, host_limit, bridge_limit, net_limit}
use Rattle.plant_types.specs.Limits.{scan_time_limit, watchdog_limit}
use Rattle.plant_types.specs.Plans.{IsFromTo, IsPlant}
use Rattle.cell_text.specs.Steps.{◌>>=◌, or_fault, unless}
use Rattle.cell_text.proofs.StepLemmas.{step-ok, or_fault-ok, unless-ok}
use Rattle.plant_loader.specs.declared.addresses.Address.{Address}
use Rattle.plant_tables.specs.declared.net.NetTable.{NetTable}
use Rattle.plant_tables.specs.declared.refusal.LoadEnd.{LoadEnd}
use Rattle.plant_tables.specs.declared.tables.Version.{Version}
use Rattle.plant_tables.specs.declared.tables.Version.TheVariants.{One, Two}
use Rattle.plant_tables.specs.declared.tables.TableKind.TheVariants as kinds
use Rattle.plant_tables.specs.Refusals.{Gives, plant_place, network_place, bad_toml}
use Rattle.plant_tables.specs.Tables.{table_passes}
use Rattle.plant_tables.specs.Keys.{number_at_or, table_at, tables_at}
use Rattle.plant_loader.specs.Rising.{by_node, by_network}
use Rattle.plant_tables.specs.Net.{Nets, nets_of}
use Rattle.controller_tables.specs.Stations.{controllers_of}
use Rattle.plant_loader.specs.Hosts.{hosts_of}
use Rattle.plant_loader.specs.Bridges.{bridges_of}
use Rattle.plant_loader.specs.Whole.{station_addresses, has_station, have_stations, all_addresses}
use Rattle.plant_loader.specs.Whole.{end_addresses, plant_from}
use Rattle.plant_loader.specs.Plant.{document_of, version_from, is_read, version_of, some_tables_at}
use Rattle.plant_loader.specs.Plant.{network_tables, bridge_texts, TopTable, top_from, top_at}
use Rattle.plant_loader.specs.Plant.{plant_with, plant_in, plant_at, plant_of}
use Rattle.traffic_cop.specs.Rows.{IsRunnablePlan}
use Rattle.controller_tables.specs.Accepted.{PassesDropTests}
use Rattle.plant_loader.specs.Accepted.{IsOfVersionOne}
use Rattle.plant_tables.proofs.Common.{ok_value}
use Rattle.plant_tables.proofs.KeyLemmas.{texts_at-few, tables_at-few}
use Rattle.plant_tables.proofs.TestLemmas.{each_passes-all, with_positions-count}
use Rattle.controller_tables.proofs.ControllerLemmas.{controllers-read, read-runnable}
use Rattle.plant_tables.proofs.NetLemmas.{AreNets, number-is, nets-are}
use Rattle.plant_loader.proofs.HostLemmas.{hosts-are}
use Rattle.plant_loader.proofs.BridgeLemmas.{bridges-are}
use Rattle.plant_loader.proofs.WholeLemmas.{AreParts, plant-is, each-controller, numbers-are}
use Rattle.plant_loader.proofs.WholeLemmas.{nodes-stations, nodes-ends}

-- ---- the parts

-- a network that has a station
station-there : (stations : List Address) (number : ℕ) (net : NetTable)
    → has_station stations number net ≡ Ok tt
    → list_any (λ (at : Address). at.network == net.number) stations ≡ true
station-there stations number net h =
    (unless-ok (list_any (λ (at : Address). at.network == net.number) stations)
    (BadNetwork, network_place number) (λ there. Ok there) tt (again (unless
    (list_any (λ (at : Address). at.network == net.number) stations)
    (BadNetwork, network_place number)) h)).0
  where
    again : {E : Type 0} (r : Result (Unit {0}) E) → r ≡ Ok tt → (r >>= λ there. Ok there) ≡ Ok tt
    again (Ok there) h = h
    again (Err e) h = absurd (cc)

-- the parts that a plant is made of
pub parts-are : (version : Version) (nets : Nets) (controller_tables host_tables : List Members)
    (texts : List (List ℕ)) (controllers : List ControllerPlan) (hosts : List HostPlan)
    (bridges : List BridgePlan) → AreNets version nets
    → controllers_of version nets.tables controller_tables ≡ Ok controllers
    → hosts_of version nets.tables controllers host_tables ≡ Ok hosts
    → bridges_of nets.tables (station_addresses controllers hosts) texts ≡ Ok bridges
    → have_stations (station_addresses controllers hosts) nets.tables ≡ Ok tt
    → AreParts nets controllers hosts bridges
parts-are version nets controller_tables host_tables texts controllers hosts bridges are h k b s =
    let read = controllers-read version nets.tables are.first controller_tables controllers h in
    let asking = hosts-are version nets.tables are.first controllers host_tables hosts read.nodes
    k in
    let stations = station_addresses controllers hosts in
    let node = λ (at : Address). at.node in
    let differ : IsDistinct nat_eq (map node stations) =
    rw (nodes-stations controllers hosts) asking.nodes in
    let joined = bridges-are nets.tables stations texts bridges differ b in
    let nodes : IsDistinct nat_eq (map node (all_addresses controllers hosts bridges)) =
    rw (map-append node stations (end_addresses bridges), nodes-ends bridges) joined.nodes in
    record {
      rules = are.rules;
      tables = are.tables;
      controllers_read = read.each;
      controllers_on = read.on;
      hosts_each = asking.each;
      hosts_on = asking.on;
      bridges_each = joined.each;
      bridges_on = joined.on;
      nodes = nodes;
      inhabited = each_passes-all (λ (net : NetTable).
          list_any (λ (at : Address). at.network == net.number) stations ≡ true)
          (has_station stations) (station-there stations) nets.tables 1 s;
    }

-- the same of lists that are these
pub parts-there : (version : Version) (nets : Nets) (controller_tables host_tables : List Members)
    (texts : List (List ℕ)) (controllers : List ControllerPlan) (hosts : List HostPlan)
    (bridges : List BridgePlan) (tables : List NetTable) (placed : List ControllerPlan)
    (stations : List Address) → AreNets version nets
    → tables ≡ nets.tables → placed ≡ controllers
    → stations ≡ station_addresses controllers hosts
    → controllers_of version tables controller_tables ≡ Ok controllers
    → hosts_of version tables placed host_tables ≡ Ok hosts
    → bridges_of tables stations texts ≡ Ok bridges
    → have_stations stations tables ≡ Ok tt → AreParts nets controllers hosts bridges
parts-there version nets controller_tables host_tables texts controllers hosts bridges tables placed
    stations are t p s h k b o =
    parts-are version nets controller_tables host_tables texts controllers hosts bridges are
    (subst (λ ts. controllers_of version ts controller_tables ≡ Ok controllers) t h)
    (subst (λ ts. hosts_of version ts controllers host_tables ≡ Ok hosts) t
    (subst (λ cs. hosts_of version tables cs host_tables ≡ Ok hosts) p k))
    (subst (λ ts. bridges_of ts (station_addresses controllers hosts) texts ≡ Ok bridges) t
    (subst (λ at. bridges_of tables at texts ≡ Ok bridges) s b))
    (subst (λ ts. have_stations (station_addresses controllers hosts) ts ≡ Ok tt) t
    (subst (λ at. have_stations at tables ≡ Ok tt) s o))

-- ---- the table of the file

-- the tables of an array that must have one
some-tables : (place : Place) (most : ℕ) (key : List ℕ) (ms : Members) (tables : List Members)
    → some_tables_at place most key ms ≡ Ok tables
    → (tables_at place most key ms ≡ Ok tables) × (1 ≤ length tables)
some-tables place most key ms tables h =
    let read = step-ok (tables_at place most key ms) _ tables h in
    let some = unless-ok (not (length read.0 == 0)) (BadValue, place)
    (λ some. Ok read.0) tables read.1.1 in
    let same : read.0 ≡ tables = ok_value read.0 tables some.1 in
    let is : 1 ≤ length read.0 = grind (arith, nat_tests, some.0) in
    rw (← same) (read.1.0, is)

networks-few : (version : Version) (top : Members) (tables : List Members)
    → network_tables version top ≡ Ok tables → length tables ≤ net_limit
networks-few One top tables h =
    let same : [] ≡ tables = ok_value [] tables h in rw (← same) (omega arith)
networks-few Two top tables h =
    tables_at-few plant_place net_limit (codes "network") top tables
    (some-tables plant_place net_limit (codes "network") top tables h).0

bridges-few : (version : Version) (top : Members) (texts : List (List ℕ))
    → bridge_texts version top ≡ Ok texts → length texts ≤ bridge_limit
bridges-few One top texts h =
    let same : [] ≡ texts = ok_value [] texts h in rw (← same) (omega arith)
bridges-few Two top texts h = texts_at-few plant_place bridge_limit (codes "bridges") top texts h

-- in version 1 there are no texts of bridges
no-bridges : (version : Version) (top : Members) (texts : List (List ℕ))
    → bridge_texts version top ≡ Ok texts → version ≡ One → texts ≡ []
no-bridges One top texts h one = sym (ok_value [] texts h)
no-bridges Two top texts h one = absurd (cc)

-- what is known of the table of a file
record IsTop (version : Version) (top : TopTable) : Type 0 where
  scan_time : IsFromTo 1 scan_time_limit top.scan_time
  watchdog : IsFromTo 1 watchdog_limit top.watchdog
  networks : length top.networks ≤ net_limit
  controllers : IsFromTo 1 controller_limit (length top.controllers)
  hosts : length top.hosts ≤ host_limit
  bridges : length top.bridges ≤ bridge_limit
  first : version ≡ One → top.bridges ≡ []

top-is : (version : Version) (ms : Members) (top : TopTable) → top_at version ms ≡ Ok top
    → IsTop version top
unfolding top_at
top-is version ms top h =
    let keys = step-ok (table_passes plant_place (kinds.Plant version) ms) _ top h in
    let scan_time = step-ok (number_at_or plant_place (codes "scan_time") 10 1 scan_time_limit ms) _
    top keys.1.1 in
    let watchdog = step-ok (number_at_or plant_place (codes "watchdog") 500 1 watchdog_limit ms) _
    top scan_time.1.1 in
    let shared = step-ok (table_at plant_place (codes "net") ms) _ top watchdog.1.1 in
    let networks = step-ok (network_tables version ms) _ top shared.1.1 in
    let controllers = step-ok (some_tables_at plant_place controller_limit (codes "controller") ms)
    _ top networks.1.1 in
    let hosts = step-ok (tables_at plant_place host_limit (codes "host") ms) _ top
    controllers.1.1 in
    let bridges = step-ok (bridge_texts version ms)
    (λ bridges. Ok (top_from scan_time.0 watchdog.0 shared.0 networks.0 controllers.0 hosts.0
    bridges)) top hosts.1.1 in
    let whole : TopTable = top_from scan_time.0 watchdog.0 shared.0 networks.0 controllers.0 hosts.0
    bridges.0 in
    let same : whole ≡ top = ok_value whole top bridges.1.1 in
    let found = some-tables plant_place controller_limit (codes "controller") ms controllers.0
    controllers.1.0 in
    let is : IsTop version whole = record {
      scan_time = number-is plant_place (codes "scan_time") 10 1 scan_time_limit ms scan_time.0
          (omega arith) (omega arith) scan_time.1.0;
      watchdog = number-is plant_place (codes "watchdog") 500 1 watchdog_limit ms watchdog.0
          (omega arith) (omega arith) watchdog.1.0;
      networks = networks-few version ms networks.0 networks.1.0;
      controllers = record {
        from = found.1;
        to = tables_at-few plant_place controller_limit (codes "controller") ms controllers.0
            found.0;
      };
      hosts = tables_at-few plant_place host_limit (codes "host") ms hosts.0 hosts.1.0;
      bridges = bridges-few version ms bridges.0 bridges.1.0;
      first = no-bridges version ms bridges.0 bridges.1.0;
    } in
    rw (← same) is

-- ---- the plant

-- a plant that is loaded passes its tests and can be run
pub record IsLoaded (plant : Plant) : Type 0 where
  pub checked : IsPlant plant
  pub drops : All PassesDropTests plant.controllers
  pub runnable : All IsRunnablePlan plant.controllers

-- what is read of a table of a version: in version 1 it has one network and no bridge
record IsReadOf (version : Version) (plant : Plant) : Type 0 where
  loaded : IsLoaded plant
  first : version ≡ One → IsOfVersionOne plant

none-read : (bridges : List BridgePlan) (texts : List (List ℕ)) → length bridges ≡ length texts
    → texts ≡ [] → bridges ≡ []
none-read [] texts count none = refl
none-read (bridge ∷ bridges) texts count none =
    let zero = ap (λ (xs : List (List ℕ)). length xs) none in absurd (omega (arith, count, zero))

plant_with-read : (version : Version) (top : TopTable) (plant : Plant) → IsTop version top
    → plant_with version top ≡ Ok plant → IsReadOf version plant
unfolding plant_with
plant_with-read version top plant is h =
    let nets = step-ok (nets_of version top.shared top.networks) _ plant h in
    let controllers = step-ok (controllers_of version nets.0.tables top.controllers) _ plant
    nets.1.1 in
    let hosts = step-ok (hosts_of version nets.0.tables controllers.0 top.hosts) _ plant
    controllers.1.1 in
    let stations = station_addresses controllers.0 hosts.0 in
    let bridges = step-ok (bridges_of nets.0.tables stations top.bridges) _ plant hosts.1.1 in
    let there = step-ok (have_stations stations nets.0.tables)
    (λ there. Ok (plant_from top.scan_time top.watchdog nets.0 controllers.0 hosts.0 bridges.0))
    plant bridges.1.1 in
    let whole : Plant =
    plant_from top.scan_time top.watchdog nets.0 controllers.0 hosts.0 bridges.0 in
    let same : whole ≡ plant = ok_value whole plant there.1.1 in
    let are = nets-are version top.shared top.networks nets.0 is.networks nets.1.0 in
    let parts = parts-are version nets.0 top.controllers top.hosts top.bridges controllers.0 hosts.0
    bridges.0 are controllers.1.0 hosts.1.0 bridges.1.0 there.1.0 in
    let count = with_positions-count _ top.controllers controllers.0 controllers.1.0 in
    let host_count = with_positions-count _ top.hosts hosts.0 hosts.1.0 in
    let bridge_count = with_positions-count _ top.bridges bridges.0 bridges.1.0 in
    let each = each-controller top.scan_time top.watchdog nets.0 controllers.0 hosts.0 bridges.0
    parts in
    let read : IsReadOf version whole = record {
      loaded = record {
        checked = plant-is top.scan_time top.watchdog nets.0 controllers.0 hosts.0 bridges.0 parts
            is.scan_time is.watchdog
            (record {
              from = omega (arith, count, is.controllers.from);
              to = omega (arith, count, is.controllers.to);
            })
            (omega (arith, host_count, is.hosts)) (omega (arith, bridge_count, is.bridges));
        drops = each PassesDropTests (λ plan read. read.drops);
        runnable = each IsRunnablePlan read-runnable;
      };
      first = λ one. record {
        net = numbers-are top.scan_time top.watchdog nets.0 controllers.0 hosts.0 bridges.0 parts
            ∙ ap (by_network (λ n. n)) (are.first one);
        no_bridge = ap (by_node (λ (b : BridgePlan). b.left))
            (none-read bridges.0 top.bridges bridge_count (is.first one));
      };
    } in
    rw (← same) read

plant_in-read : (version : Version) (top : Members) (plant : Plant)
    → plant_in version top ≡ Ok plant → IsReadOf version plant
unfolding plant_in
plant_in-read version top plant h =
    let table = step-ok (top_at version top) _ plant h in
    plant_with-read version table.0 plant (top-is version top table.0 table.1.0) table.1.1

-- a version that is read is no newer than the newest
read-first : (newest version : Version) → is_read newest version ≡ true → newest ≡ One
    → version ≡ One
read-first One One h one = refl
read-first One Two h one = absurd (cc)
read-first Two version h one = absurd (cc)

version-first : (newest : Version) (top : Members) (version : Version)
    → version_of newest top ≡ Ok version → newest ≡ One → version ≡ One
unfolding version_of
version-first newest top version h one =
    let d = step-ok (or_fault (BadKey, plant_place) (get_member (codes "version") top)) _ version h
    in
    let number = step-ok (or_fault (BadValue, plant_place) (as_integer d.0)) _ version d.1.1 in
    let found = or_fault-ok (BadVersion, plant_place) (version_from number.0) _ version
    number.1.1 in
    let read = unless-ok (is_read newest found.0) (BadVersion, plant_place)
    (λ read. Ok found.0) version found.1.1 in
    let same : found.0 ≡ version = ok_value found.0 version read.1 in
    sym same ∙ read-first newest found.0 read.0 one

plant_at-read : (newest : Version) (top : Members) (plant : Plant) → plant_at newest top ≡ Ok plant
    → IsReadOf newest plant
unfolding plant_at
plant_at-read newest top plant h =
    let version = step-ok (version_of newest top) _ plant h in
    let read = plant_in-read version.0 top plant version.1.1 in
    record {
      loaded = read.loaded;
      first = λ one. read.first (version-first newest top version.0 version.1.0 one);
    }

-- the plant of bytes
plant_of-read : (newest : Version) (bytes : List ℕ) (plant : Plant)
    → plant_of newest bytes ≡ Ok plant → IsReadOf newest plant
unfolding plant_of
plant_of-read newest bytes plant h =
    let top = or_fault-ok bad_toml (document_of bytes) (plant_at newest) plant h in
    plant_at-read newest top.0 plant top.1.1

-- what is read of a document is what is read of its bytes
pub plant_of-document : (newest : Version) (bytes : List ℕ) (top : Members)
    (r : Result Plant LoadEnd)
    → or_fault bad_toml (document_of bytes) ≡ Ok top
    → Gives (λ plant. plant) r (plant_at newest top)
    → Gives (λ plant. plant) r (plant_of newest bytes)
unfolding plant_of
plant_of-document newest bytes top r e g = rw e g

-- so it is with what a call answered
pub gives-loaded : (newest : Version) (bytes : List ℕ) (r : Result Plant LoadEnd)
    → Gives (λ plant. plant) r (plant_of newest bytes) → IfOk r (λ plant. IsLoaded plant)
gives-loaded newest bytes (Ok plant) g = (plant_of-read newest bytes plant g).loaded
gives-loaded newest bytes (Err end) g = tt

pub gives-first : (newest : Version) (bytes : List ℕ) (r : Result Plant LoadEnd)
    → Gives (λ plant. plant) r (plant_of newest bytes) → newest ≡ One
    → IfOk r (λ plant. IsOfVersionOne plant)
gives-first newest bytes (Ok plant) g one = (plant_of-read newest bytes plant g).first one
gives-first newest bytes (Err end) g one = tt

pub loaded-checked : (r : Result Plant LoadEnd) → IfOk r (λ plant. IsLoaded plant)
    → IfOk r (λ plant. IsPlant plant)
loaded-checked (Ok plant) h = h.checked
loaded-checked (Err end) h = tt

pub loaded-drops : (r : Result Plant LoadEnd) → IfOk r (λ plant. IsLoaded plant)
    → IfOk r (λ plant. All PassesDropTests plant.controllers)
loaded-drops (Ok plant) h = h.drops
loaded-drops (Err end) h = tt

pub loaded-runnable : (r : Result Plant LoadEnd) → IfOk r (λ plant. IsLoaded plant)
    → IfOk r (λ plant. All IsRunnablePlan plant.controllers)
loaded-runnable (Ok plant) h = h.runnable
loaded-runnable (Err end) h = tt
