use Rattle.std.proofs.Common.{arith, refl}
use Rattle.list_courses.proofs.RingSteps.{ring-breaks, ring-goes-on}
use Rattle.list_courses.proofs.ring_following.follow_ring.Goals as goal

pub returns-then-not-branch : goal.returns-then-not-branch
returns-then-not-branch c =
    ring-breaks c.args.plan.now c.args.entries.now c.loop-place.place c.index-entries-place.result
    _ c.loop-place.ring _ _
    c.loop-place.invariant.net_is refl c.loop-place.invariant.legal
    (omega arith) c.index-entries-place.is c.in_ok-follow.ensures c.if-not-branch.true

pub loop-place-preserved : goal.loop-place-preserved
loop-place-preserved c =
    ring-goes-on c.args.plan.now c.args.entries.now c.loop-place.place
    c.index-entries-place.result _ c.loop-place.ring _ _
    c.loop-place.invariant.net_is refl c.loop-place.invariant.legal
    (omega arith) c.index-entries-place.is c.in_ok-follow.ensures c.if-not-branch.false
