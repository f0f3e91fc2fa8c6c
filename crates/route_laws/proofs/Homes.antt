-- A call that its own node's port did is asked of no other node, and done once.
use Rattle.std.proofs.Common.{◌≡◌, ℕ, ◌≤◌, ◌++◌, List, [], ◌∷◌, map, sym, ap, ◌∙◌, subst, arith}
use Rattle.std.specs.Prelude.{flat_map, ◌==◌}
use Rattle.std.specs.List.{All, AllZip, AllByRecursion as Each, count_by}
use Rattle.std.proofs.lemmas.Bool.{eqb-true}
use Rattle.std.proofs.lemmas.List.Elements.{All-head, All-tail}
use Rattle.host_port.proofs.Lists.{all_append, and_false}
use Rattle.plant_types.specs.declared.net.BridgePlan.{BridgePlan}
use Rattle.plant_types.specs.declared.net.HostPlan.{HostPlan}
use Rattle.plant_types.specs.declared.plan.ControllerPlan.{ControllerPlan}
use Rattle.plant_types.specs.declared.plan.Plant.{Plant}
use Rattle.plant_types.specs.Plans.{controller_nodes, end_nodes, host_nodes}
use Rattle.mstr_block.specs.declared.call.CallId.{CallId}
use Rattle.mstr_block.specs.Call.{is_same_call}
use Rattle.ring_core.specs.declared.entry.RingEntry.{RingEntry}
use Rattle.ring_laws.specs.Once.{posts}
use Rattle.ring_laws.proofs.Lists.{count-contains, each-contains}
use Rattle.bridge_relay.specs.declared.entry.BridgeEntry.{BridgeEntry}
use Rattle.bridge_relay.specs.declared.entry.BridgeEntry.TheVariants.{Accept, Forward, Finish}
use Rattle.bridge_relay.specs.declared.entry.BridgeEntry.TheVariants.{Back, Gone}
use Rattle.bridge_relay.specs.declared.entry.RelayResult.TheVariants as results
use Rattle.tied_lists.specs.Own.{own}
use Rattle.tied_lists.specs.Items.{ABridge, AController, AHost, Items, Station, no_items}
use Rattle.tied_lists.specs.Tied.{AsksAreCalls, EndsAreMet}
use Rattle.joint_history.specs.declared.joint.BridgeLog.{BridgeLog}
use Rattle.joint_history.specs.declared.joint.ControllerLog.{ControllerLog}
use Rattle.joint_history.specs.declared.joint.HostLog.{HostLog}
use Rattle.joint_history.specs.declared.joint.Joint.{Joint}
use Rattle.joint_history.specs.JointLaws.{IsJoint, IsLegalBridgeLog, IsLegalHostLog, IsLegalJoint}
use Rattle.joint_history.specs.JointLaws.{IsLegalLog, IsTiedBridge, IsTiedController, IsTiedHost}
use Rattle.joint_history.specs.JointLaws.{IsTiedSide, fixed_of}
use Rattle.joint_history.specs.Bridges.{made_at_end, side_item_next, side_items, side_items_after}
use Rattle.joint_history.specs.Nets.{noted_on_rings}
use Rattle.joint_history.specs.Reading.{host_items_of, items_of}
use Rattle.joint_history.proofs.Collected.{CallLaws}
use Rattle.effect_laws.proofs.Calls.{call-facts}
use Rattle.effect_laws.proofs.Homes.{HomesOnce, acts_at_home, controller-homes, home-ended}
use Rattle.effect_laws.proofs.Homes.{none-away, host-homes, is_asked, is_away, posted-asked}
use Rattle.net_laws.proofs.Members.{all_nodes, times}

-- what a node's port did at home for a call it did once, and its node posted no Request of it
pub record HomeAlone (id : CallId) (b : List RingEntry) : Type 0 where
  pub once : count_by (acts_at_home id) b ≤ 1
  pub none : count_by (posts id) b ≡ 0

abbrev pub IsHomeAlone : List RingEntry → CallId → ℕ → Type 0
IsHomeAlone ring id n =
    1 ≤ count_by (acts_at_home id) (own n ring) → HomeAlone id (own n ring)

home-alone : (id : CallId) (station : Station) (a : Items) (ring : List RingEntry) (n : ℕ)
    → AsksAreCalls a (own n ring) → EndsAreMet station a (own n ring) → HomesOnce a
    → IsHomeAlone ring id n
home-alone id station a ring n asks ends homes some =
    let ended = home-ended station a id (own n ring) ends in
    let facts = homes id (omega (arith, some, ended)) in
    let once = facts.once in
    record {
      once = omega (arith, ended, once);
      none = posted-asked id (own n ring) ∙ ap (count_by (is_asked id)) asks ∙ facts.none;
    }

away-next : (a : Items) (e : BridgeEntry) → Each is_away a.ends
    → Each is_away (side_item_next a e).ends
away-next a (Accept side id route request) all = all
away-next a (Forward side old id route request) all = all
away-next a (Finish side id (results.Reply pdu)) all =
    all_append is_away a.ends _ all ((λ other. and_false (is_same_call id other)), tt)
away-next a (Finish side id (results.Bad word)) all =
    all_append is_away a.ends _ all ((λ other. and_false (is_same_call id other)), tt)
away-next a (Back side id reply) all = all
away-next a (Gone side) all = all

aways : (a : Items) (h : List BridgeEntry) → Each is_away a.ends
    → Each is_away (side_items_after a h).ends
aways a [] all = all
aways a (e ∷ h) all = aways (side_item_next a e) h (away-next a e all)

-- the end of a bridge has no call that its port did at home
pub end-away : (side : ℕ) (list : List BridgeEntry) → Each is_away (side_items side list).ends
end-away side list = aways no_items (made_at_end side list) tt

end-homes : (side : ℕ) (list : List BridgeEntry) → HomesOnce (side_items side list)
end-homes side list id some =
    absurd (none-away id (side_items side list).ends (end-away side list) some)

end-alone : (id : CallId) (ring : List RingEntry) (log : BridgeLog) (side : ℕ)
    → IsTiedSide ring log side → IsHomeAlone ring id side
end-alone id ring log side tied =
    home-alone id ABridge (side_items side log.entries) ring side tied.asks tied.ends
    (end-homes side log.entries)

-- ---- each node

controllers-alone : CallLaws → (plant : Plant) (scans : ℕ) (id : CallId) (ring : List RingEntry)
    (plans : List ControllerPlan) (logs : List ControllerLog)
    → AllZip (IsLegalLog plant scans) plans logs → All (IsTiedController ring) logs
    → Each (IsHomeAlone ring id) (map (λ (p : ControllerPlan). p.node) plans)
controllers-alone laws plant scans id ring [] [] zip all = tt
controllers-alone laws plant scans id ring [] (log ∷ logs) zip all = absurd zip
controllers-alone laws plant scans id ring (plan ∷ plans) [] zip all = absurd zip
controllers-alone laws plant scans id ring (plan ∷ plans) (log ∷ logs) zip all =
    let tied = All-head (IsTiedController ring) log logs all in (
      subst (IsHomeAlone ring id) zip.0.0
          (home-alone id AController (items_of log.entries) ring log.node tied.asks tied.ends
          (controller-homes (items_of log.entries)
          (call-facts laws (fixed_of plant scans plan) log.entries zip.0.1))),
      controllers-alone laws plant scans id ring plans logs zip.1
          (All-tail (IsTiedController ring) log logs all),
    )

hosts-alone : (id : CallId) (ring : List RingEntry) (plans : List HostPlan) (logs : List HostLog)
    → AllZip IsLegalHostLog plans logs → All (IsTiedHost ring) logs
    → Each (IsHomeAlone ring id) (map (λ (p : HostPlan). p.node) plans)
hosts-alone id ring [] [] zip all = tt
hosts-alone id ring [] (log ∷ logs) zip all = absurd zip
hosts-alone id ring (plan ∷ plans) [] zip all = absurd zip
hosts-alone id ring (plan ∷ plans) (log ∷ logs) zip all =
    let tied = All-head (IsTiedHost ring) log logs all in (
      subst (IsHomeAlone ring id) zip.0.0
          (home-alone id AHost (host_items_of log.entries) ring log.node tied.asks tied.ends
          (host-homes log.entries)),
      hosts-alone id ring plans logs zip.1 (All-tail (IsTiedHost ring) log logs all),
    )

bridges-alone : (id : CallId) (ring : List RingEntry) (plans : List BridgePlan)
    (logs : List BridgeLog)
    → AllZip IsLegalBridgeLog plans logs → All (IsTiedBridge ring) logs
    → Each (IsHomeAlone ring id) (flat_map (λ (b : BridgePlan). b.left ∷ b.right ∷ []) plans)
bridges-alone id ring [] [] zip all = tt
bridges-alone id ring [] (log ∷ logs) zip all = absurd zip
bridges-alone id ring (plan ∷ plans) [] zip all = absurd zip
bridges-alone id ring (plan ∷ plans) (log ∷ logs) zip all =
    let tied = All-head (IsTiedBridge ring) log logs all in (
      subst (IsHomeAlone ring id) zip.0.0 (end-alone id ring log log.left tied.left),
      (
        subst (IsHomeAlone ring id) zip.0.1 (end-alone id ring log log.right tied.right),
        bridges-alone id ring plans logs zip.1 (All-tail (IsTiedBridge ring) log logs all),
      ),
    )

all-alone : CallLaws → (plant : Plant) (scans : ℕ) (joint : Joint) (id : CallId)
    → IsLegalJoint plant scans joint → IsJoint joint
    → Each (IsHomeAlone (noted_on_rings joint) id) (all_nodes plant)
all-alone laws plant scans joint id legal tied =
    let ring = noted_on_rings joint in
    all_append (IsHomeAlone ring id) (controller_nodes plant ++ host_nodes plant) (end_nodes plant)
    (all_append (IsHomeAlone ring id) (controller_nodes plant) (host_nodes plant)
    (controllers-alone laws plant scans id ring plant.controllers joint.controllers
    legal.controllers tied.controllers)
    (hosts-alone id ring plant.hosts joint.hosts legal.hosts tied.hosts))
    (bridges-alone id ring plant.bridges joint.bridges legal.bridges tied.bridges)

-- what all numbers of a list are, one that stands there is
at-number : (P : ℕ → Type 0) (m : ℕ) (ns : List ℕ) → Each P ns → 1 ≤ times m ns → P m
at-number P m ns all some =
    let found = count-contains (λ n. m == n) ns some in
    subst P (sym (eqb-true m found.0 found.2)) (each-contains P ns found.0 all found.1)

pub node-alone : CallLaws → (plant : Plant) (scans : ℕ) (joint : Joint) (id : CallId) (n : ℕ)
    → IsLegalJoint plant scans joint → IsJoint joint → 1 ≤ times n (all_nodes plant)
    → IsHomeAlone (noted_on_rings joint) id n
node-alone laws plant scans joint id n legal tied there =
    at-number (IsHomeAlone (noted_on_rings joint) id) n (all_nodes plant)
    (all-alone laws plant scans joint id legal tied) there
