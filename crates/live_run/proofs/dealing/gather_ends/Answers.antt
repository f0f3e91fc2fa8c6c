use Rattle.std.proofs.Common.{◌∷◌, [], flat_map, refl, sym}
use Rattle.std.proofs.lemmas.List.{flat_map_more}
use Rattle.plant_types.specs.declared.net.BridgePlan.{BridgePlan}
use Rattle.live_run.specs.Ends.{Crossing, sides_of_ends}
use Rattle.live_run.specs.Homes.{IsAtHome}
use Rattle.live_run.proofs.Dealt.{bridge-at}
use Rattle.live_run.proofs.Gathering.{gathered-both, gathered-one, gathering-init, gathering-next}
use Rattle.live_run.proofs.Gathering.{next-at, on-ok, reversed-is, still-kept}
use Rattle.live_run.proofs.dealing.gather_ends.Given.{Over}
use Rattle.live_run.proofs.dealing.gather_ends.Goals.{After-is_ok-done}
use Rattle.live_run.proofs.dealing.gather_ends.Goals as goal

-- the sides of the station that comes next are of the rings of its plan's networks
at-home : (g : Over) (c : After-is_ok-done g)
    → IsAtHome c.args.homes.now (bridge-at c.args.plans.now c.loop-station.place).left_net
    c.in-Some.station.ring.left
    × IsAtHome c.args.homes.now (bridge-at c.args.plans.now c.loop-station.place).right_net
    c.in-Some.station.ring.right
at-home g c =
    let l = c.loop-station in
    let homes = c.args.homes.now in
    let at = next-at homes (flat_map sides_of_ends)
    (λ (plan : BridgePlan) (station : Crossing).
    IsAtHome homes plan.left_net station.ring.left
    × IsAtHome homes plan.right_net station.ring.right)
    c.args.plans.now c.args.stations.items l.stations.items c.pop.new.self.items
    c.in-Some.station l.place (record { left_net = 0; left = 0; right_net = 0; right = 0 })
    c.in-Some.ensures.items l.invariant.at in
    at.1

pub loop-station-init : goal.loop-station-init
loop-station-init g c =
    let homes = c.args.homes.now in
    gathering-init homes (flat_map sides_of_ends)
    (λ (plan : BridgePlan) (station : Crossing).
    IsAtHome homes plan.left_net station.ring.left
    × IsAtHome homes plan.right_net station.ring.right)
    c.args.plans.now c.args.stations.items c.args.purses.now _ c.new-logs.result.items refl
    (reversed-is c.args.stations.items c.as_mut_slice.result.now c.reverse.new.self
    c.args.stations.len c.as_mut_slice.ensures.value c.reverse.ensures.after
    c.as_mut_slice.ensures.len)
    c.new-logs.ensures.items c.requires.keeps c.requires.at

pub unseat-requires-clause-at : goal.unseat-requires-clause-at
unseat-requires-clause-at g c =
    (at-home g (goal.at.unseat-requires-clause-at g c).After-is_ok-done).0

pub unseat-requires-in-Some-clause-at : goal.unseat-requires-in-Some-clause-at
unseat-requires-in-Some-clause-at g c =
    (at-home g (goal.at.unseat-requires-in-Some-clause-at g c).After-is_ok-done).1

pub unseat-requires-in-Some-clause-keeps : goal.unseat-requires-in-Some-clause-keeps
unseat-requires-in-Some-clause-keeps g c =
    let l = c.loop-station in
    let plan = bridge-at c.args.plans.now l.place in
    still-kept c.args.homes.now l.purses c.unseat.new.purses plan.left_net
    c.in-Some.station.ring.left l.invariant.keeps
    (at-home g (goal.at.unseat-requires-in-Some-clause-keeps g c).After-is_ok-done).0
    c.unseat.ensures

pub loop-station-preserved : goal.loop-station-preserved
loop-station-preserved g c =
    let l = c.loop-station in
    let homes = c.args.homes.now in
    let plan = bridge-at c.args.plans.now l.place in
    let mid = c.unseat.new.purses in
    let new = c.unseat-in-Some.new.purses in
    let left = c.in-Some.station.ring.left in
    let right = c.in-Some.station.ring.right in
    let at = at-home g (goal.at.loop-station-preserved g c).After-is_ok-done in
    gathering-next homes (flat_map sides_of_ends)
    (λ (plan : BridgePlan) (station : Crossing).
    IsAtHome homes plan.left_net station.ring.left
    × IsAtHome homes plan.right_net station.ring.right)
    c.args.plans.now c.args.stations.items c.args.purses.now l.purses new
    l.stations.items c.pop.new.self.items c.in-Some.station l.logs.items c.keep.new.logs.items
    l.done c.is_ok-done.result l.place (left ∷ right ∷ [])
    (record { left_net = 0; left = 0; right_net = 0; right = 0 })
    c.in-Some.ensures.items (λ ws. sym (flat_map_more sides_of_ends [] ws c.in-Some.station))
    (on-ok c.keep.result _ c.is_ok-done.result c.is_ok-done.ensures.value c.keep.ensures)
    (still-kept homes mid new plan.right_net right
    (still-kept homes l.purses mid plan.left_net left l.invariant.keeps at.0 c.unseat.ensures)
    at.1 c.unseat-in-Some.ensures)
    (gathered-both homes l.purses mid new (left ∷ []) (right ∷ [])
    (gathered-one homes c.requires.apart l.purses mid plan.left_net left c.requires.unused at.0
    c.unseat.ensures)
    (gathered-one homes c.requires.apart mid new plan.right_net right c.requires.unused at.1
    c.unseat-in-Some.ensures)) l.invariant
