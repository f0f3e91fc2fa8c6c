use Rattle.std.proofs.Common.{subst, sym}
use Rattle.std.specs.Prelude.{◌==◌}
use Rattle.std.specs.List.{AllByRecursion}
use Rattle.plant_types.specs.Plans.{IsNode}
use Rattle.plant_loader.specs.declared.addresses.Address.{Address}
use Rattle.plant_loader.proofs.WholeLemmas.{some-all}
use Rattle.plant_loader.proofs.addresses.nodes_on.Goals as goal

pub nodes_rising-requires : goal.nodes_rising-requires
nodes_rising-requires c =
    subst (AllByRecursion IsNode) (sym c.in_ok-nodes_unsorted.ensures)
    (some-all IsNode (λ (at : Address). at.node)
    (λ (at : Address). at.network == c.args.network) c.args.addresses.now c.requires)
