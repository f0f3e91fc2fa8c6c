use Rattle.std.proofs.Common.{◌+◌, take, sym, subst}
use Rattle.cone_of.specs.Cone.{HasNetwork}
use Rattle.cone_of.specs.Growing.{HasNetworks}
use Rattle.cone_of.proofs.Forced.{grows-on, more-hold, first-hold, last-holds}
use Rattle.cone_of.proofs.cone.Cone.grow_networks.Goals as goal

pub loop-network-preserved : goal.loop-network-preserved
loop-network-preserved c =
    let networks = c.args.networks.now in
    let i = c.loop-network.network-index in
    let one = c.network-item.result in
    let is = c.network-item.is in
    let below = c.loop-network-test.true in
    grows-on (HasNetworks (take i networks)) (λ set. HasNetwork set one)
    (HasNetworks (take (i + 1) networks)) c.loop-network.grew c.in_ok-more.more c.args.self.now
    c.loop-network.self c.grow.new.self
    (λ set first has. more-hold (HasNetwork set) networks i one below first
    (subst (HasNetwork set) is has))
    (λ set both. first-hold (HasNetwork set) networks i both)
    (λ set both. subst (HasNetwork set) (sym is)
    (last-holds (HasNetwork set) networks i one below both))
    c.loop-network.invariant c.in_ok-more.ensures
