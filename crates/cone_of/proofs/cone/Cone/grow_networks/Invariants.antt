use Rattle.std.proofs.Common.{take}
use Rattle.cone_of.specs.Growing.{GrowsBy, HasNetworks}
use Rattle.cone_of.proofs.cone.Cone.grow_networks.Given as goal

abbrev pub invariant-loop-network : goal.invariant-loop-network
invariant-loop-network l =
    GrowsBy (HasNetworks (take l.network-index l.networks)) l.grew l.fn.self l.self
