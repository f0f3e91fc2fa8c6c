-- Hosts that are read can be run.
use Rattle.std.proofs.Common.{◌≡◌, ◌≢◌, ℕ, ◌≤◌, ◌==◌, Bool, true, false, not, ◌||◌, List, []}
use Rattle.std.proofs.Common.{◌∷◌, ◌++◌, length, map, Some, Ok, true≢false, eq-eqb, sym, ap}
use Rattle.std.proofs.Common.{ap₂, ◌∙◌, arith}
use Rattle.std.specs.Prelude.{codes, nat_le, nat_eq, slice_get}
use Rattle.std.specs.List.{list_any, list_all, AllByRecursion, IsDistinct}
use Rattle.std.proofs.lemmas.Bool.{and_parts, not-true, leb-true}
use Rattle.std.proofs.lemmas.List.{append-nil, length-map}
use Rattle.std.proofs.lemmas.List.Folds.{list_any-append}
use Rattle.toml.specs.Data.{Members}
use Rattle.plant_types.specs.declared.net.HostAsk.{HostAsk}
use Rattle.plant_types.specs.declared.net.HostPlan.{HostPlan}
use Rattle.plant_types.specs.declared.plan.ControllerPlan.{ControllerPlan}
use Rattle.plant_types.specs.declared.fault.PlantFault.TheVariants.{BadValue, BadNode, BadNetwork}
use Rattle.plant_types.specs.declared.fault.Place.{Place}
use Rattle.plant_types.specs.Limits.{is_up_to, most_address, due_limit, request_limit}
use Rattle.plant_types.specs.Numerals.{is_numeral, value_of}
use Rattle.plant_types.specs.Plans.{IsNode, IsRouteFrom, IsAskOf, IsHostPlan, is_routed}
use Rattle.cell_text.specs.Steps.{or_fault}
use Rattle.cell_text.specs.Words.{text_words}
use Rattle.cell_text.proofs.StepLemmas.{step-ok, or_fault-ok, or_fault-some, unless-ok, some-guard}
use Rattle.plant_tables.specs.declared.net.NetTable.{NetTable}
use Rattle.plant_tables.specs.declared.tables.Version.{Version}
use Rattle.plant_tables.specs.declared.tables.Version.TheVariants.{One}
use Rattle.plant_tables.specs.declared.tables.TableKind.TheVariants as kinds
use Rattle.plant_tables.specs.Refusals.{host_table_place, request_place}
use Rattle.plant_tables.specs.InOrder.{numbered_from}
use Rattle.plant_tables.specs.Tables.{table_passes}
use Rattle.plant_tables.specs.Keys.{address_at, texts_at}
use Rattle.plant_tables.specs.Routes.{route_words, most_addresses, is_route, addresses_in}
use Rattle.plant_tables.specs.Routes.{begins_elsewhere, leads_from, route_from}
use Rattle.plant_tables.specs.Numerals.{numeral_within}
use Rattle.plant_loader.specs.Requests.{request_words, pdu_in}
use Rattle.plant_loader.specs.Requests.{ask_from, host_request, numbered_request, requests_of}
use Rattle.plant_tables.specs.Net.{has_net, network_at}
use Rattle.controller_tables.specs.Stations.{has_controller}
use Rattle.plant_loader.specs.Hosts.{has_host, host_from, host_behind, hosts_of}
use Rattle.plant_tables.proofs.Common.{ok_value, some_value}
use Rattle.plant_tables.proofs.KeyLemmas.{address_at-within, texts_at-few}
use Rattle.plant_tables.proofs.NumeralLemmas.{numeral-within}
use Rattle.plant_tables.proofs.NetLemmas.{network-is}
use Rattle.plant_tables.proofs.TestLemmas.{each_behind-keeps, each_behind-all, each_from-all}
use Rattle.plant_tables.proofs.TestLemmas.{each_from-length, none-node, distinct-push}
use Rattle.plant_loader.proofs.RisingLemmas.{to-all}

-- ---- requests

-- numbers that are each an address
nodes-each : (numbers : List ℕ) → list_all (is_up_to most_address) numbers ≡ true
    → AllByRecursion IsNode numbers
nodes-each [] h = tt
nodes-each (n ∷ numbers) h =
    let parts = and_parts (is_up_to most_address n) (list_all (is_up_to most_address) numbers) h in
    let range = and_parts (nat_le 1 n) (nat_le n most_address) parts.0 in (
      record { from = leb-true 1 n range.0; to = leb-true n most_address range.1 },
      nodes-each numbers parts.1,
    )

-- the first of them is another
first-other : (node : ℕ) (first : ℕ) (rest : List ℕ) → begins_elsewhere node (first ∷ rest) ≡ true
    → slice_get (first ∷ rest) 0 ≢ Some node
first-other node first rest h is =
    let same : first ≡ node = some_value first node is in
    true≢false (sym (eq-eqb first node same) ∙ not-true (first == node) h)

-- a route by which a host can ask
route-is : (routed : Bool) (most node : ℕ) (route : List ℕ) → leads_from node route ≡ true
    → length route ≤ most → (routed ≡ false → most ≡ 1)
    → IsRouteFrom routed node route
route-is routed most node [] leads few alone = absurd (cc)
route-is routed most node (first ∷ rest) leads few alone =
    let route = first ∷ rest in
    let parts = and_parts (list_all (is_up_to most_address) route)
    (begins_elsewhere node route) leads in
    record {
      some = omega arith;
      nodes = to-all IsNode route (nodes-each route parts.0);
      other = first-other node first rest parts.1;
      alone = λ unrouted. let one = alone unrouted in omega (arith, few, one);
    }

request-is : (version : Version) (host : HostPlan) (place : Place) (text : List ℕ) (ask : HostAsk)
    → (is_routed host.network ≡ false → most_addresses version ≡ 1)
    → host_request version host.node place text ≡ Ok ask → IsAskOf host ask
unfolding host_request
request-is version host place text ask alone h =
    let node = host.node in
    let words = step-ok (or_fault (BadValue, place) (request_words (text_words text))) _ ask h in
    let hold = step-ok (or_fault (BadValue, place) (numeral_within 1 due_limit words.0.hold)) _
    ask words.1.1 in
    let reads = unless-ok (is_route version words.0.route) (BadValue, place) _ ask hold.1.1 in
    let pdu = step-ok (pdu_in place words.0.pdu) _ ask reads.1 in
    let route = or_fault-ok (BadNode, place) (route_from node words.0.route)
    (λ route. Ok (ask_from hold.0 route pdu.0)) ask pdu.1.1 in
    let whole : HostAsk = ask_from hold.0 route.0 pdu.0 in
    let same : whole ≡ ask = ok_value whole ask route.1.1 in
    let numbers = addresses_in words.0.route in
    let leads = some-guard (leads_from node numbers) (Some numbers) route.0 route.1.0 in
    let there : numbers ≡ route.0 = some_value numbers route.0 leads.1 in
    let tests = and_parts (nat_le (length (route_words words.0.route)) (most_addresses version))
    (list_all is_numeral (route_words words.0.route)) reads.0 in
    let most = leb-true (length (route_words words.0.route)) (most_addresses version) tests.0 in
    let count : length numbers ≡ length (route_words words.0.route) =
    length-map (route_words words.0.route) value_of in
    let way : IsRouteFrom (is_routed host.network) node numbers =
    route-is (is_routed host.network) (most_addresses version) node numbers leads.0
    (omega (arith, most, count)) alone in
    let is : IsAskOf host whole = record {
      hold = numeral-within 1 due_limit words.0.hold hold.0
          (or_fault-some (BadValue, place) (numeral_within 1 due_limit words.0.hold) hold.0
          hold.1.0);
      route = rw (← there) way;
    } in
    rw (← same) is

-- ---- hosts

-- what is known of a host of a table
record IsHost (nets : List NetTable) (controllers : List ControllerPlan) (earlier : List HostPlan)
    (host : HostPlan) : Type 0 where
  plan : IsHostPlan host
  there : has_net nets host.network ≡ true
  fresh : has_controller controllers host.node || has_host earlier host.node ≡ false

-- the nodes of controllers and hosts, in file order
abbrev pub station_nodes : List ControllerPlan → List HostPlan → List ℕ
station_nodes controllers hosts =
    map (λ plan. plan.node) controllers ++ map (λ host. host.node) hosts

-- the hosts of a plant beside its controllers
pub record AreHosts (nets : List NetTable) (controllers : List ControllerPlan)
    (hosts : List HostPlan) : Type 0 where
  pub each : AllByRecursion IsHostPlan hosts
  pub on : AllByRecursion (λ (host : HostPlan). has_net nets host.network ≡ true) hosts
  pub nodes : IsDistinct nat_eq (station_nodes controllers hosts)

-- a node that no controller and no host has is none of the nodes
none-of : (controllers : List ControllerPlan) (hosts : List HostPlan) (n : ℕ)
    → list_any (nat_eq n) (station_nodes controllers hosts)
    ≡ has_controller controllers n || has_host hosts n
none-of controllers hosts n =
    list_any-append (nat_eq n) (map (λ (plan : ControllerPlan). plan.node) controllers)
    (map (λ (host : HostPlan). host.node) hosts)
    ∙ ap₂ (λ a b. a || b) (sym (none-node (λ (plan : ControllerPlan). plan.node) n controllers))
    (sym (none-node (λ (host : HostPlan). host.node) n hosts))

module _ (version : Version) (nets : List NetTable)
    (first : version ≡ One → map (λ (net : NetTable). net.number) nets ≡ 0 ∷ [])
    (controllers : List ControllerPlan) where
  host-is : (earlier : List HostPlan) (table : ℕ × Members) (host : HostPlan)
      → host_behind version nets controllers earlier table ≡ Ok host
      → IsHost nets controllers earlier host
  unfolding host_behind
  host-is earlier table host h =
      let place = host_table_place table.0 in
      let keys = step-ok (table_passes place (kinds.Host version) table.1) _ host h in
      let node = step-ok (address_at place table.1) _ host keys.1.1 in
      let named = step-ok (network_at version nets place table.1) _ host node.1.1 in
      let texts = step-ok (texts_at place request_limit (codes "requests") table.1) _ host
      named.1.1 in
      let known = has_controller controllers node.0 || has_host earlier node.0 in
      let fresh = unless-ok (not known) (BadNode, place) _ host texts.1.1 in
      let network = or_fault-ok (BadNetwork, place) named.0 _ host fresh.1 in
      let requests = step-ok (requests_of version node.0 table.0 texts.0)
      (λ requests. Ok (host_from node.0 network.0 requests)) host network.1.1 in
      let whole : HostPlan = host_from node.0 network.0 requests.0 in
      let same : whole ≡ host = ok_value whole host requests.1.1 in
      let on = network-is version nets place table.1 network.0 first
      (named.1.0 ∙ ap Ok network.1.0) in
      let within = address_at-within place table.1 node.0 node.1.0 in
      let asks = each_from-all (IsAskOf whole) (numbered_request version node.0 table.0)
      (λ n text ask e. request-is version whole (request_place table.0 n) text ask on.alone e)
      texts.0 1 requests.0 requests.1.0 in
      let count = each_from-length (numbered_request version node.0 table.0) texts.0 1 requests.0
      requests.1.0 in
      let few = texts_at-few place request_limit (codes "requests") table.1 texts.0 texts.1.0 in
      let is : IsHost nets controllers earlier whole = record {
        plan = record {
          node = record { from = within.0; to = within.1 };
          few = omega (arith, count, few);
          requests = to-all (IsAskOf whole) requests.0 asks;
        };
        there = on.there;
        fresh = not-true known fresh.0;
      } in
      rw (← same) is

  pub hosts-are : (tables : List Members) (hosts : List HostPlan)
      → IsDistinct nat_eq (map (λ (plan : ControllerPlan). plan.node) controllers)
      → hosts_of version nets controllers tables ≡ Ok hosts → AreHosts nets controllers hosts
  hosts-are tables hosts nodes h =
      let read = host_behind version nets controllers in
      let none : IsDistinct nat_eq (station_nodes controllers []) =
      rw (append-nil (map (λ (plan : ControllerPlan). plan.node) controllers)) nodes in
      record {
        each = each_behind-all IsHostPlan read
            (λ before table host e. (host-is before table host e).plan)
            (numbered_from 1 tables) [] hosts tt h;
        on = each_behind-all (λ (host : HostPlan). has_net nets host.network ≡ true) read
            (λ before table host e. (host-is before table host e).there)
            (numbered_from 1 tables) [] hosts tt h;
        nodes = each_behind-keeps (λ hosts. IsDistinct nat_eq (station_nodes controllers hosts))
            read
            (λ before table host e held. distinct-push (λ (host : HostPlan). host.node)
            (map (λ (plan : ControllerPlan). plan.node) controllers) before host held
            (none-of controllers before host.node ∙ (host-is before table host e).fresh))
            (numbered_from 1 tables) [] hosts none h;
      }
