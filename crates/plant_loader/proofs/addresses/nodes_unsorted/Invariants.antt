use Rattle.std.proofs.Common.{◌≡◌, take}
use Rattle.std.specs.Prelude.{◌==◌, map, filter}
use Rattle.plant_loader.specs.declared.addresses.Address.{Address}
use Rattle.plant_loader.proofs.addresses.nodes_unsorted.Given as goal

-- the nodes so far
abbrev pub invariant-loop-at : goal.invariant-loop-at
invariant-loop-at l = l.nodes.items ≡ map (λ (at : Address). at.node)
    (filter (λ (at : Address). at.network == l.network) (take l.at-index l.addresses))
