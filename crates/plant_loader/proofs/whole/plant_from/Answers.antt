use Rattle.std.proofs.Common.{◌++◌, map, subst, sym, ap₂, ◌∙◌}
use Rattle.std.specs.List.{AllByRecursion}
use Rattle.plant_types.specs.Plans.{IsNode}
use Rattle.plant_loader.specs.declared.addresses.Address.{Address}
use Rattle.plant_tables.specs.Net.{read_nets}
use Rattle.plant_loader.specs.Whole.{station_addresses, end_addresses}
use Rattle.plant_loader.specs.Whole.{nets_by_number}
use Rattle.plant_loader.proofs.WholeLemmas.{addresses-nodes, ends-nodes, same-made}
use Rattle.plant_loader.proofs.whole.plant_from.Goals as goal

pub nets_by_number-requires-clause-all : goal.nets_by_number-requires-clause-all
nets_by_number-requires-clause-all c =
    let stations = c.in_ok-stations.ensures
    ∙ ap₂ station_addresses c.as_slice.ensures.value c.as_slice-2.ensures.value in
    let all = c.as_slice-5.ensures.value ∙ c.in_ok-all.ensures
    ∙ ap₂ (λ xs bridges. xs ++ end_addresses bridges) stations c.as_slice-3.ensures.value in
    subst (λ xs. AllByRecursion IsNode (map (λ (at : Address). at.node) xs)) (sym all)
    (addresses-nodes c.args.controllers.items c.args.hosts.items c.args.bridges.items
    c.requires.controllers c.requires.hosts c.requires.left c.requires.right)

pub nets_by_number-requires-clause-ends : goal.nets_by_number-requires-clause-ends
nets_by_number-requires-clause-ends c =
    let ends = c.as_slice-6.ensures.value ∙ c.in_ok-ends.ensures
    ∙ ap₂ (λ xs bridges. xs ++ end_addresses bridges) c.new.ensures.items
    c.as_slice-4.ensures.value in
    subst (λ xs. AllByRecursion IsNode (map (λ (at : Address). at.node) xs)) (sym ends)
    (ends-nodes c.args.bridges.items c.requires.left c.requires.right)

pub returns : goal.returns
returns c =
    let stations = c.in_ok-stations.ensures
    ∙ ap₂ station_addresses c.as_slice.ensures.value c.as_slice-2.ensures.value in
    let all = c.as_slice-5.ensures.value ∙ c.in_ok-all.ensures
    ∙ ap₂ (λ xs bridges. xs ++ end_addresses bridges) stations c.as_slice-3.ensures.value in
    let ends = c.as_slice-6.ensures.value ∙ c.in_ok-ends.ensures
    ∙ ap₂ (λ xs bridges. xs ++ end_addresses bridges) c.new.ensures.items
    c.as_slice-4.ensures.value in
    let nets = c.in_ok-nets.ensures ∙ ap₂ (nets_by_number (read_nets c.args.nets)) all ends in
    same-made c.args.scan_time c.args.watchdog c.in_ok-nets.nets _
    c.in_ok-controllers_by_node.field-0 _ c.in_ok-hosts_by_node.field-0 _
    c.in_ok-bridges_by_left.field-0 _ nets
    c.in_ok-controllers_by_node.ensures c.in_ok-hosts_by_node.ensures
    c.in_ok-bridges_by_left.ensures
