use Rattle.std.proofs.Common.{◌≡◌, true, ◌∷◌, [], ◌++◌, subst, arith}
use Rattle.std.specs.Prelude.{◌↔◌}
use Rattle.plant_types.specs.declared.net.BridgePlan.{BridgePlan}
use Rattle.bridge_relay.specs.Legal.{IsBridgeHistory}
use Rattle.list_courses.proofs.FollowSteps.{follow-breaks}
use Rattle.list_courses.proofs.following.follow_bridge_entries.Goals as goal

pub returns-then-not-branch : goal.returns-then-not-branch
returns-then-not-branch c =
    follow-breaks (IsBridgeHistory c.args.bridge.now.plan) c.args.entries.now
    c.loop-place.bridge.history c.loop-place.place c.index-entries-place.result
    c.in_ok-follow.field-0 c.loop-place.invariant.history c.loop-place.invariant.legal
    (omega arith) c.index-entries-place.is
    (subst (λ (plan : BridgePlan). (c.in_ok-follow.field-0 ≡ true)
    ↔ IsBridgeHistory plan (c.loop-place.bridge.history ++ c.index-entries-place.result ∷ []))
    c.loop-place.invariant.plan c.in_ok-follow.ensures.legal) c.if-not-branch.true
