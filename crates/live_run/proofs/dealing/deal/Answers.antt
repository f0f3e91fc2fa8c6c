use Rattle.std.proofs.Common.{◌+◌, ◌∷◌, [], None, drop, map, take, refl, sym, ap, subst, subst₂}
use Rattle.std.proofs.Common.{◌∙◌, rules}
use Rattle.std.proofs.lemmas.List.{map-append}
use Rattle.std.specs.List.{AllZip}
use Rattle.live_run.specs.Dealing.{CanDeal, IsFreshSeat, side_of_seat}
use Rattle.live_run.specs.Homes.{HasRing, IsSeated, KeepsFor}
use Rattle.live_run.proofs.Dealt.{can-next, can-seat, dealing-next, dealt-one, fresh-side, rest-is}
use Rattle.live_run.proofs.dealing.deal.Given.{Over}
use Rattle.live_run.proofs.dealing.deal.Goals.{After-node}
use Rattle.live_run.proofs.dealing.deal.Goals as goal

-- the passes of the nodes from this plan on can be dealt
ready : (g : Over) (c : After-node g)
    → CanDeal c.args.homes.now c.loop-index.purses (g.P.HasNode.node_of c.index-plans-index.result
    ∷ map g.P.HasNode.node_of (drop (c.loop-index.index + 1) c.args.plans.now))
ready g c =
    let rest = rest-is c.args.plans.now c.loop-index.index c.index-plans-index.result
    c.loop-index-test.true c.index-plans-index.is in
    subst (λ l. CanDeal c.args.homes.now c.loop-index.purses (map g.P.HasNode.node_of l)) rest
    c.loop-index.invariant.dealing.ready

pub seat-requires-clause-there : goal.seat-requires-clause-there
seat-requires-clause-there g c =
    let plan = c.index-plans-index.result in
    subst (λ n. HasRing c.args.homes.now n) (sym (c.network.ensures
    ∙ ap g.P.HasNode.network_of c.index-plans-index.is))
    (c.requires.rings c.loop-index.index plan c.loop-index-test.true)

pub seat-requires-clause-keeps : goal.seat-requires-clause-keeps
seat-requires-clause-keeps g c =
    subst (λ n. AllZip (KeepsFor n) c.args.homes.now c.loop-index.purses) (sym c.node.ensures)
    (can-seat c.args.homes.now c.loop-index.purses
    (g.P.HasNode.node_of c.index-plans-index.result)
    (map g.P.HasNode.node_of (drop (c.loop-index.index + 1) c.args.plans.now))
    (ready g (goal.at.seat-requires-clause-keeps g c).After-node))

pub loop-index-preserved : goal.loop-index-preserved
loop-index-preserved g c =
    let homes = c.args.homes.now in
    let plans = c.args.plans.now in
    let index = c.loop-index.index in
    let old = c.loop-index.purses in
    let new = c.seat.new.purses in
    let plan = c.index-plans-index.result in
    let side = c.seat.result in
    let node_of = g.P.HasNode.node_of in
    let network_of = g.P.HasNode.network_of in
    let rest = map node_of (drop (index + 1) plans) in
    let can = ready g (goal.at.loop-index-preserved g c).After-node in
    let seated = subst₂ (λ n m. IsSeated homes old new n m side) c.network.ensures c.node.ensures
    c.seat.ensures in
    let one = dealt-one homes old new (network_of plan) (node_of plan) side seated in
    record {
      filled = search rules;
      capacity = search rules;
      dealing = dealing-next homes (map node_of) (map side_of_seat)
          (λ plan. IsFreshSeat homes (network_of plan) (node_of plan)) plans c.args.purses.now old
          new index c.loop-index.room.items c.push_reserved.new.self.items plan
          (record { ring = side; log = None }) (node_of plan ∷ []) (side ∷ [])
          c.loop-index-test.true c.index-plans-index.is c.push_reserved.ensures.items
          (map-append node_of (take index plans) (plan ∷ []))
          (map-append side_of_seat c.loop-index.room.items
          (record { ring = side; log = None } ∷ []))
          (can-next homes old new (node_of plan) rest (side.gate, side.number) one can) one
          (record {
            side = fresh-side homes old new (network_of plan) (node_of plan) rest side seated can;
            unlogged = refl;
          }) c.loop-index.invariant.dealing;
    }
