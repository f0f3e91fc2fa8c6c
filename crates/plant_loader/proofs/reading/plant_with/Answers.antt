use Rattle.std.proofs.Common.{◌≡◌, ◌∙◌, Ok, subst, sym, ap₂, arith}
use Rattle.std.proofs.lemmas.List.{length-map}
use Rattle.toml.specs.View.{table_view}
use Rattle.plant_tables.specs.Given.{table_in, tables_in, texts_in}
use Rattle.plant_tables.specs.Net.{read_nets}
use Rattle.plant_loader.specs.Bridges.{bridges_of}
use Rattle.plant_loader.specs.Whole.{station_addresses, have_stations}
use Rattle.plant_tables.proofs.NetLemmas.{AreNets, nets-are}
use Rattle.plant_loader.proofs.WholeLemmas.{AreParts, controllers-nodes, hosts-nodes, left-nodes}
use Rattle.plant_loader.proofs.WholeLemmas.{right-nodes}
use Rattle.plant_loader.proofs.LoadedLemmas.{parts-there}
use Rattle.plant_loader.proofs.reading.plant_with.Goals as goal

pub have_stations-requires : goal.have_stations-requires
have_stations-requires c =
    let count = length-map c.as_slice.result.now (λ t. table_view t.now) in
    let nets = nets-are c.args.version (table_in c.args.top.now.shared)
    (tables_in c.as_slice.result.now) (read_nets c.in_ok-nets.nets)
    (omega (arith, count, c.as_slice.ensures.len, c.requires.networks)) c.in_ok-nets.ensures in
    omega (arith, nets.few, c.as_slice-tables.ensures.len)

nets-there : (c : goal.In_ok-have_stations) → AreNets c.args.version (read_nets c.in_ok-nets.nets)
nets-there c =
    let count = length-map c.as_slice.result.now (λ t. table_view t.now) in
    nets-are c.args.version (table_in c.args.top.now.shared) (tables_in c.as_slice.result.now)
    (read_nets c.in_ok-nets.nets)
    (omega (arith, count, c.as_slice.ensures.len, c.requires.networks)) c.in_ok-nets.ensures

parts : (c : goal.In_ok-have_stations) → AreParts (read_nets c.in_ok-nets.nets)
    c.in_ok-controllers.controllers.items c.in_ok-hosts.hosts.items c.in_ok-bridges.bridges.items
parts c =
    let stations = c.in_ok-stations.ensures
    ∙ ap₂ station_addresses c.as_slice-placed.ensures.value c.as_slice-4.ensures.value in
    parts-there c.args.version (read_nets c.in_ok-nets.nets) (tables_in c.as_slice-2.result.now)
    (tables_in c.as_slice-3.result.now) (texts_in c.as_slice-6.result.now)
    c.in_ok-controllers.controllers.items c.in_ok-hosts.hosts.items c.in_ok-bridges.bridges.items
    c.as_slice-tables.result.now c.as_slice-placed.result.now c.in_ok-stations.stations.items
    (nets-there c) c.as_slice-tables.ensures.value c.as_slice-placed.ensures.value stations
    c.in_ok-controllers.ensures c.in_ok-hosts.ensures
    (subst (λ at. bridges_of c.as_slice-tables.result.now at (texts_in c.as_slice-6.result.now)
    ≡ Ok c.in_ok-bridges.bridges.items) c.as_slice-5.ensures.value c.in_ok-bridges.ensures)
    (subst (λ at. have_stations at c.as_slice-tables.result.now ≡ Ok tt) c.as_slice-7.ensures.value
    (sym c.have_stations.ensures ∙ c.in_ok-have_stations.was))

pub plant_from-requires-clause-numbers : goal.plant_from-requires-clause-numbers
plant_from-requires-clause-numbers c = (nets-there c).tables.numbers

pub plant_from-requires-clause-controllers : goal.plant_from-requires-clause-controllers
plant_from-requires-clause-controllers c = controllers-nodes c.args.top.now.scan_time
    c.args.top.now.watchdog (read_nets c.in_ok-nets.nets) c.in_ok-controllers.controllers.items
    c.in_ok-hosts.hosts.items c.in_ok-bridges.bridges.items (parts c)

pub plant_from-requires-clause-hosts : goal.plant_from-requires-clause-hosts
plant_from-requires-clause-hosts c = hosts-nodes c.args.top.now.scan_time
    c.args.top.now.watchdog (read_nets c.in_ok-nets.nets) c.in_ok-controllers.controllers.items
    c.in_ok-hosts.hosts.items c.in_ok-bridges.bridges.items (parts c)

pub plant_from-requires-clause-left : goal.plant_from-requires-clause-left
plant_from-requires-clause-left c = left-nodes c.args.top.now.scan_time
    c.args.top.now.watchdog (read_nets c.in_ok-nets.nets) c.in_ok-controllers.controllers.items
    c.in_ok-hosts.hosts.items c.in_ok-bridges.bridges.items (parts c)

pub plant_from-requires-clause-right : goal.plant_from-requires-clause-right
plant_from-requires-clause-right c = right-nodes c.args.top.now.scan_time
    c.args.top.now.watchdog (read_nets c.in_ok-nets.nets) c.in_ok-controllers.controllers.items
    c.in_ok-hosts.hosts.items c.in_ok-bridges.bridges.items (parts c)
