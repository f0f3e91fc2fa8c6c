use Rattle.std.proofs.Common.{◌+◌, ◌≡◌, ◌++◌, ◌∷◌, [], take, sym, ap, subst}
use Rattle.std.proofs.Common.{◌∙◌, arith}
use Rattle.std.specs.List.{AllZip}
use Rattle.std.proofs.lemmas.List.{take_more}
use Rattle.net_laws.proofs.On.{net-sound}
use Rattle.serial_run.specs.Stations.{StartsRing}
use Rattle.serial_run.proofs.Lists.{item-there, zip-push}
use Rattle.serial_run.proofs.Networks.{contains-at}
use Rattle.serial_run.proofs.stations.rings_of.Goals as goal

pub ring_of-requires : goal.ring_of-requires
ring_of-requires c =
    let plant = c.args.plant.now in
    let at = c.loop-net.net-index in
    let net = c.net-item.result in
    (net-sound plant net c.requires.sound (contains-at plant.nets at net
    (item-there c.as_slice-net-items.result.now plant.nets at net c.as_slice-net-items.ensures
    (omega arith) c.net-item.is))).plan

pub loop-net-preserved : goal.loop-net-preserved
loop-net-preserved c =
    let items = c.as_slice-net-items.result.now in
    let at = c.loop-net.net-index in
    let net = c.net-item.result in
    let plans = c.args.plant.now.nets in
    let R = StartsRing in
    let more = zip-push R (take at plans) c.loop-net.rings.items net _ c.loop-net.invariant
    c.in_ok-ring_of.ensures in
    let front : take (at + 1) items ≡ take at items ++ net ∷ [] =
    take_more items at net (omega arith) ∙ ap (λ p. take at items ++ p ∷ [])
    (sym c.net-item.is) in
    let front' : take (at + 1) plans ≡ take at plans ++ net ∷ [] =
    subst (λ l. take (at + 1) l ≡ take at l ++ net ∷ []) c.as_slice-net-items.ensures front in
    subst (λ l. AllZip R l c.push.new.self.items) (sym front')
    (subst (AllZip R (take at plans ++ net ∷ [])) (sym c.in_ok-push.ensures.items) more)
