use Rattle.std.proofs.Common.{◌∷◌, [], map, refl, sym, ap, subst, ◌∙◌}
use Rattle.std.proofs.lemmas.List.{map-append}
use Rattle.live_run.specs.Dealing.{Seat, side_of_seat}
use Rattle.live_run.specs.Homes.{IsAtHome}
use Rattle.live_run.proofs.Gathering.{gathered-one, gathering-init, gathering-next, next-at, on-ok}
use Rattle.live_run.proofs.Gathering.{reversed-is, still-kept}
use Rattle.live_run.proofs.dealing.gather.Given.{Over}
use Rattle.live_run.proofs.dealing.gather.Goals.{After-network}
use Rattle.live_run.proofs.dealing.gather.Goals as goal

-- the station that comes next is one of the ring of its plan's network
at-home : (g : Over) (c : After-network g)
    → IsAtHome c.args.homes.now c.network.result c.in-Some.station.ring
at-home g c =
    let l = c.loop-station in
    let homes = c.args.homes.now in
    let plan = c.index-plans-place.result in
    let network_of = g.P.HasNode.network_of in
    let at = next-at homes (map side_of_seat)
    (λ plan (seat : Seat g.row.L.Denot). IsAtHome homes (network_of plan) (side_of_seat seat))
    c.args.plans.now c.args.stations.items l.stations.items c.pop.new.self.items
    c.in-Some.station l.place plan c.in-Some.ensures.items l.invariant.at in
    subst (λ n. IsAtHome homes n c.in-Some.station.ring)
    (sym (c.network.ensures ∙ ap network_of c.index-plans-place.is)) at.1

pub loop-station-init : goal.loop-station-init
loop-station-init g c =
    let homes = c.args.homes.now in
    gathering-init homes (map side_of_seat)
    (λ plan (seat : Seat g.row.L.Denot).
    IsAtHome homes (g.P.HasNode.network_of plan) (side_of_seat seat))
    c.args.plans.now c.args.stations.items c.args.purses.now _ c.new-logs.result.items refl
    (reversed-is c.args.stations.items c.as_mut_slice.result.now c.reverse.new.self
    c.args.stations.len c.as_mut_slice.ensures.value c.reverse.ensures.after
    c.as_mut_slice.ensures.len)
    c.new-logs.ensures.items c.requires.keeps c.requires.at

pub unseat-requires-clause-at : goal.unseat-requires-clause-at
unseat-requires-clause-at g c =
    at-home g (goal.at.unseat-requires-clause-at g c).After-network

pub loop-station-preserved : goal.loop-station-preserved
loop-station-preserved g c =
    let l = c.loop-station in
    let homes = c.args.homes.now in
    let side = c.in-Some.station.ring in
    let at = at-home g (goal.at.loop-station-preserved g c).After-network in
    gathering-next homes (map side_of_seat)
    (λ plan (seat : Seat g.row.L.Denot).
    IsAtHome homes (g.P.HasNode.network_of plan) (side_of_seat seat))
    c.args.plans.now c.args.stations.items c.args.purses.now l.purses c.unseat.new.purses
    l.stations.items c.pop.new.self.items c.in-Some.station l.logs.items c.keep.new.logs.items
    l.done c.is_ok-done.result l.place (side ∷ []) c.index-plans-place.result
    c.in-Some.ensures.items (λ ws. map-append side_of_seat ws (c.in-Some.station ∷ []))
    (on-ok c.keep.result _ c.is_ok-done.result c.is_ok-done.ensures.value c.keep.ensures)
    (still-kept homes l.purses c.unseat.new.purses c.network.result side l.invariant.keeps at
    c.unseat.ensures)
    (gathered-one homes c.requires.apart l.purses c.unseat.new.purses c.network.result side
    c.requires.unused at c.unseat.ensures) l.invariant
