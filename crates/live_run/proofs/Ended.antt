-- Stations and bridges at their ends: the laws by the entries of all rings, and whether they are
-- complete by those of their own.
use Rattle.std.proofs.Common.{◌≡◌, ℕ, ◌<◌, List, sym, ap, subst, ⊎_elim, inl, inr}
use Rattle.plant_types.specs.declared.net.BridgePlan.{BridgePlan}
use Rattle.plant_types.specs.declared.net.HostPlan.{HostPlan}
use Rattle.plant_types.specs.declared.net.NetPlan.{NetPlan}
use Rattle.plant_types.specs.declared.plan.ControllerPlan.{ControllerPlan}
use Rattle.plant_types.specs.declared.plan.Plant.{Plant}
use Rattle.plant_types.specs.Plans.{IsBridgePlan, net_of}
use Rattle.ring_core.specs.declared.entry.RingEntry.{RingEntry}
use Rattle.ring_core.specs.declared.status.NodeStatus.TheVariants.{Away, Gone}
use Rattle.ring_core.specs.Machine.{addresses}
use Rattle.tied_lists.specs.Items.{AController, AHost}
use Rattle.tied_lists.specs.Own.{own}
use Rattle.tied_lists.specs.Tied.{Tied, TiedEnd}
use Rattle.tied_lists.specs.Waits.{status_at}
use Rattle.joint_history.specs.declared.joint.BridgeLog.{BridgeLog}
use Rattle.joint_history.specs.declared.joint.ControllerLog.{ControllerLog}
use Rattle.joint_history.specs.declared.joint.HostLog.{HostLog}
use Rattle.joint_history.specs.Bridges.{backs_of, side_items}
use Rattle.joint_history.specs.declared.joint.RingLog.{RingLog}
use Rattle.joint_history.specs.Complete.{ControllerIsOut, HostIsComplete, HostIsCompleteOn}
use Rattle.joint_history.specs.Complete.{IsCompleteBridgeLog, IsCompleteHostLog, IsCompleteLog}
use Rattle.joint_history.specs.Complete.{IsCompleteSide, LeavesQuietly, NodeIsComplete, StaysOff}
use Rattle.joint_history.specs.JointLaws.{IsLegalBridgeLog, IsLegalHostLog, IsLegalLog}
use Rattle.joint_history.specs.JointLaws.{IsTiedBridge, IsTiedController, IsTiedHost, IsTiedSide}
use Rattle.joint_history.specs.JointLaws.{fixed_of}
use Rattle.joint_history.specs.Nets.{entries_of_rings, own_ring}
use Rattle.joint_history.specs.Reading.{host_items_of, items_of}
use Rattle.entry_causes.specs.InTime.{HostInTime, InTime}
use Rattle.entry_causes.specs.Joint.{IsControllerInTime, IsHostInTime}
use Rattle.live_workers.specs.TurnLaws.{ControllersComplete, HostsComplete, NoneSpent}
use Rattle.live_workers.proofs.EndLaws.{end-complete}
use Rattle.live_workers.specs.EndTimes.{EndInTime, IsBridgeInTime, IsEndInTime}
use Rattle.net_laws.proofs.Standing.{away-same, gone-same}
use Rattle.live_workers.specs.Stations.{CameToEnd, EndCameToEnd, HostCameToEnd}
use Rattle.live_run.proofs.Heard.{HasAllOwn}

-- all that is told of a controller that came to its end
pub record ControllerEnded (plant : Plant) (scans : ℕ) (rings : List RingLog)
    (plan : ControllerPlan) (log : ControllerLog) : Type 0 where
  pub legal : IsLegalLog plant scans plan log
  pub tied : IsTiedController (entries_of_rings rings) log
  pub timely : IsControllerInTime (entries_of_rings rings) log
  pub complete : IsCompleteLog plant scans rings plan log
  pub unspent : NoneSpent (own plan.node (entries_of_rings rings))

pub controller-ended : ControllersComplete → (plant : Plant) (scans : ℕ) (plan : ControllerPlan)
    (log : ControllerLog) (seen : List RingEntry) (rings : List RingLog) → plan.node < addresses
    → HasAllOwn plant rings plan.node seen → CameToEnd plant scans plan log seen
    → ControllerEnded plant scans rings plan log
controller-ended law plant scans plan log seen rings low all c =
    let fixed = fixed_of plant scans plan in
    let home = net_of plant plan.node in
    let items = items_of log.entries in
    let ring = own_ring plant rings log.node in
    let f = c.finished in
    let has : HasAllOwn plant rings log.node seen =
    subst (λ (n : ℕ). HasAllOwn plant rings n seen) (sym c.node) all in
    let near : log.node < addresses = subst (λ (n : ℕ). n < addresses) (sym c.node) low in
    let each = law fixed home log.node log.entries seen f.stands f.keeps f.ended f.collected f.out
    in
    let out' : ControllerIsOut home ring log.node fixed log.entries = ⊎_elim
    (λ (gone : status_at home seen log.node ≡ Gone).
    inl (gone-same home log.node seen ring near has.on_own gone))
    (λ (away : (status_at home seen log.node ≡ Away) × StaysOff fixed log.entries).
    inr (away-same home log.node seen ring near has.on_own away.0, away.1))
    each.1 in
    record {
      legal = (c.node, f.stands.legal);
      tied = subst (Tied AController items) has.on_rings f.stands.tied;
      timely = subst (InTime log.entries) has.on_rings f.keeps.timely.timely;
      complete = (
        each.0,
        subst (λ (net : NetPlan). ControllerIsOut net ring log.node fixed log.entries)
            (ap (net_of plant) (sym c.node)) out',
        subst (NodeIsComplete items) has.on_own each.2,
      );
      unspent = subst NoneSpent all.on_rings c.unspent;
    }

-- and of a host
pub record HostEnded (plant : Plant) (rings : List RingLog) (plan : HostPlan) (log : HostLog)
    : Type 0 where
  pub legal : IsLegalHostLog plan log
  pub tied : IsTiedHost (entries_of_rings rings) log
  pub timely : IsHostInTime (entries_of_rings rings) log
  pub complete : IsCompleteHostLog plant rings plan log
  pub unspent : NoneSpent (own plan.node (entries_of_rings rings))

pub host-ended : HostsComplete → (plant : Plant) (plan : HostPlan) (log : HostLog)
    (seen : List RingEntry) (rings : List RingLog) → plan.node < addresses
    → HasAllOwn plant rings plan.node seen → HostCameToEnd plant plan log seen
    → HostEnded plant rings plan log
host-ended law plant plan log seen rings low has c =
    let noted = entries_of_rings rings in
    let home = net_of plant plan.node in
    let items = host_items_of log.entries in
    let f = c.finished in
    let back = sym f.node in
    let each = law plan home log.entries seen f.stands f.keeps in
    record {
      legal = (f.node, f.stands.legal);
      tied = subst (λ (n : ℕ). Tied AHost items (own n noted)) back
          (subst (Tied AHost items) has.on_rings f.stands.tied);
      timely = subst (λ (n : ℕ). HostInTime log.entries (own n noted)) back
          (subst (HostInTime log.entries) has.on_rings f.keeps.timely.timely);
      complete = subst (λ (n : ℕ).
          HostIsCompleteOn (net_of plant n) (own_ring plant rings n) n plan log.entries) back (
            subst (HostIsComplete plan items) has.on_own each.0,
            gone-same home plan.node seen (own_ring plant rings plan.node) low has.on_own each.1,
            subst (NodeIsComplete items) has.on_own each.2,
          );
      unspent = subst NoneSpent has.on_rings c.unspent;
    }

-- and of an end of a bridge
pub record EndEnded (plant : Plant) (rings : List RingLog) (log : BridgeLog) (side : ℕ)
    : Type 0 where
  pub tied : IsTiedSide (entries_of_rings rings) log side
  pub timely : IsEndInTime side log.entries (entries_of_rings rings)
  pub complete : IsCompleteSide plant rings log side
  pub unspent : NoneSpent (own side (entries_of_rings rings))

pub end-ended : (plant : Plant) (plan : BridgePlan) (log : BridgeLog) (side : ℕ)
    (seen : List RingEntry) (rings : List RingLog) → IsBridgePlan plan → side < addresses
    → HasAllOwn plant rings side seen → EndCameToEnd plant plan side log.entries seen
    → EndEnded plant rings log side
end-ended plant plan log side seen rings sound low has c =
    let net = net_of plant side in
    let list = log.entries in
    let each = end-complete plan net side list seen sound c.ties c.keeps in
    record {
      tied = subst (TiedEnd (side_items side list) (backs_of side list)) has.on_rings c.ties.tied;
      timely = subst (EndInTime side list) has.on_rings c.keeps.in_time;
      complete = record {
        finished = each.finished;
        gone = each.gone;
        left = gone-same net side seen (own_ring plant rings side) low has.on_own each.left;
        quiet = subst LeavesQuietly has.on_own each.quiet;
      };
      unspent = subst NoneSpent has.on_rings c.unspent;
    }

-- and of a bridge
pub record BridgeEnded (plant : Plant) (rings : List RingLog) (plan : BridgePlan)
    (log : BridgeLog) : Type 0 where
  pub legal : IsLegalBridgeLog plan log
  pub tied : IsTiedBridge (entries_of_rings rings) log
  pub timely : IsBridgeInTime (entries_of_rings rings) log
  pub complete : IsCompleteBridgeLog plant rings plan log
  pub left : NoneSpent (own plan.left (entries_of_rings rings))
  pub right : NoneSpent (own plan.right (entries_of_rings rings))

pub bridge-ended : (plant : Plant) (rings : List RingLog) (plan : BridgePlan) (log : BridgeLog)
    → IsLegalBridgeLog plan log → EndEnded plant rings log plan.left
    → EndEnded plant rings log plan.right → BridgeEnded plant rings plan log
bridge-ended plant rings plan log legal one two =
    let left : EndEnded plant rings log log.left =
    subst (EndEnded plant rings log) (sym legal.0) one in
    let right : EndEnded plant rings log log.right =
    subst (EndEnded plant rings log) (sym legal.1) two in
    record {
      legal = legal;
      tied = record { left = left.tied; right = right.tied };
      timely = record { left = left.timely; right = right.timely };
      complete = (left.complete, right.complete);
      left = one.unspent;
      right = two.unspent;
    }
