-- The closed lists of a run all of whose stations came to their ends.
use Rattle.std.proofs.Common.{◌≡◌, ℕ, Bool, true, List, map, subst, sym}
use Rattle.std.specs.List.{AllZip, Contains}
use Rattle.std.proofs.lemmas.List.Elements.{All-contains, All-contains_itself}
use Rattle.plant_types.specs.declared.net.BridgePlan.{BridgePlan}
use Rattle.plant_types.specs.declared.net.HostPlan.{HostPlan}
use Rattle.plant_types.specs.declared.plan.ControllerPlan.{ControllerPlan}
use Rattle.plant_types.specs.declared.plan.Plant.{Plant}
use Rattle.plant_types.specs.Plans.{IsBridgeOf, IsBridgePlan, IsPlant}
use Rattle.tied_lists.specs.Own.{own}
use Rattle.joint_history.specs.declared.joint.BridgeLog.{BridgeLog}
use Rattle.joint_history.specs.declared.joint.HostLog.{HostLog}
use Rattle.joint_history.specs.declared.joint.Joint.{Joint}
use Rattle.joint_history.specs.declared.joint.RingLog.{RingLog}
use Rattle.joint_history.specs.declared.noted.Noted.{Noted}
use Rattle.joint_history.specs.Complete.{IsComplete, IsCompleteBridgeLog, IsCompleteHostLog}
use Rattle.joint_history.specs.Complete.{IsCompleteLog}
use Rattle.joint_history.specs.JointLaws.{IsJoint, IsLegalBridgeLog, IsLegalHostLog, IsLegalJoint}
use Rattle.joint_history.specs.JointLaws.{IsLegalLog, IsLegalRingLog, IsTiedBridge}
use Rattle.joint_history.specs.JointLaws.{IsTiedController, IsTiedHost}
use Rattle.joint_history.specs.Nets.{noted_on_rings}
use Rattle.entry_causes.specs.Joint.{IsControllerInTime, IsHostInTime, StationsAreInTime}
use Rattle.live_workers.specs.TurnLaws.{ControllersComplete, HostsComplete, NoneSpent}
use Rattle.live_workers.specs.EndTimes.{AreBridgesInTime, IsBridgeInTime}
use Rattle.net_laws.proofs.On.{IsOn, controller-on, host-on, left-on, right-on}
use Rattle.live_workers.specs.declared.stations.NotedLog.{NotedLog}
use Rattle.live_workers.specs.Stations.{CameNoted, EndCameToEnd, HostCameToEnd}
use Rattle.live_run.specs.Closing.{AllClosed}
use Rattle.live_run.specs.Homes.{Purse, RingGate}
use Rattle.live_run.specs.Runs.{AreBrought, IsBridgeBrought, IsBrought, IsMadeOf, IsThrough}
use Rattle.live_run.specs.Runs.{log_part}
use Rattle.live_run.proofs.Ended.{BridgeEnded, ControllerEnded, EndEnded, HostEnded}
use Rattle.live_run.proofs.Ended.{bridge-ended, controller-ended, end-ended, host-ended}
use Rattle.live_run.proofs.Heard.{low-node, noted-own}
use Rattle.live_run.proofs.Places.{zip-weaker}
use Rattle.live_run.proofs.Zipped.{all-there, zip-map, zip-second, zip-with}
use Rattle.live_run.proofs.Unspent.{at-nodes, none-spent}

-- all that the closed lists are
pub record Closes (plant : Plant) (scans : ℕ) (joint : Joint) : Type 0 where
  pub legal : IsLegalJoint plant scans joint
  pub ties : IsJoint joint
  pub timely : StationsAreInTime joint
  pub complete : IsComplete plant scans joint
  pub bridges_in_time : AreBridgesInTime joint
  pub unspent : NoneSpent (noted_on_rings joint)

-- all that is told of stations, of bridges and of rings
pub record AllEnded (plant : Plant) (scans : ℕ) (joint : Joint) : Type 0 where
  pub controllers : AllZip (ControllerEnded plant scans joint.rings) plant.controllers
      joint.controllers
  pub hosts : AllZip (HostEnded plant joint.rings) plant.hosts joint.hosts
  pub bridges : AllZip (BridgeEnded plant joint.rings) plant.bridges joint.bridges
  pub rings : AllZip IsLegalRingLog plant.nets joint.rings

closes : (plant : Plant) (scans : ℕ) (joint : Joint) → IsPlant plant → AllEnded plant scans joint
    → Closes plant scans joint
closes plant scans joint sound all =
    let noted = noted_on_rings joint in
    let ran = ControllerEnded plant scans joint.rings in
    let served = HostEnded plant joint.rings in
    let crossed = BridgeEnded plant joint.rings in
    record {
      legal = record {
        controllers = zip-weaker ran (IsLegalLog plant scans) plant.controllers
            joint.controllers (λ a b e. e.legal) all.controllers;
        hosts = zip-weaker served IsLegalHostLog plant.hosts joint.hosts (λ a b e. e.legal)
            all.hosts;
        bridges = zip-weaker crossed IsLegalBridgeLog plant.bridges joint.bridges
            (λ a b e. e.legal) all.bridges;
        rings = all.rings;
      };
      ties = record {
        controllers = zip-second ran (IsTiedController noted) (λ a b e. e.tied)
            plant.controllers joint.controllers all.controllers;
        hosts = zip-second served (IsTiedHost noted) (λ a b e. e.tied) plant.hosts joint.hosts
            all.hosts;
        bridges = zip-second crossed (IsTiedBridge noted) (λ a b e. e.tied) plant.bridges
            joint.bridges all.bridges;
      };
      timely = record {
        controllers = zip-second ran (IsControllerInTime noted) (λ a b e. e.timely)
            plant.controllers joint.controllers all.controllers;
        hosts = zip-second served (IsHostInTime noted) (λ a b e. e.timely) plant.hosts
            joint.hosts all.hosts;
      };
      complete = record {
        controllers = zip-weaker ran (IsCompleteLog plant scans joint.rings) plant.controllers
            joint.controllers (λ a b e. e.complete) all.controllers;
        hosts = zip-weaker served (IsCompleteHostLog plant joint.rings) plant.hosts joint.hosts
            (λ a b e. e.complete) all.hosts;
        bridges = zip-weaker crossed (IsCompleteBridgeLog plant joint.rings) plant.bridges
            joint.bridges (λ a b e. e.complete) all.bridges;
      };
      bridges_in_time = zip-second crossed (IsBridgeInTime noted) (λ a b e. e.timely)
          plant.bridges joint.bridges all.bridges;
      unspent = none-spent plant joint.rings sound all.rings
          (at-nodes plant (λ (n : ℕ). NoneSpent (own n noted)) ran served crossed
          joint.controllers joint.hosts joint.bridges (λ a b e. e.unspent) (λ a b e. e.unspent)
          (λ a b e. (e.left, e.right)) all.controllers all.hosts all.bridges);
    }

module _ (law : ControllersComplete) (host_law : HostsComplete) (plant : Plant) (scans : ℕ)
    (sound : IsPlant plant) (gates : List RingGate) (purses : List Purse) (rings : List RingLog)
    (closed : AllClosed gates purses rings)
    (legal : AllZip IsLegalRingLog plant.nets rings) where
  ran-ended : (logs : List NotedLog)
      → AreBrought gates purses (λ (p : ControllerPlan). p.network)
      (λ (p : ControllerPlan). p.node) (CameNoted plant scans) plant.controllers logs
      → AllZip (ControllerEnded plant scans rings) plant.controllers
      (map log_part logs)
  ran-ended logs all =
      zip-map (ControllerEnded plant scans rings) log_part plant.controllers logs
      (zip-with (λ (p : ControllerPlan). IsOn plant p.network p.node)
      (λ (p : ControllerPlan) (l : NotedLog).
      IsBrought gates purses p.network p.node (CameNoted plant scans p l))
      (λ (p : ControllerPlan) (l : NotedLog). ControllerEnded plant scans rings p l.log)
      (λ p l on b. controller-ended law plant scans p l.log b.side.seen rings
      (low-node plant p.network p.node on)
      (noted-own plant gates purses rings sound closed legal p.network p.node
      (CameNoted plant scans p l) on b) b.holds.came)
      plant.controllers logs
      (all-there (λ (p : ControllerPlan). IsOn plant p.network p.node) plant.controllers
      (λ p there. controller-on plant p sound there)) all)

  served-ended : (logs : List HostLog)
      → AreBrought gates purses (λ (p : HostPlan). p.network) (λ (p : HostPlan). p.node)
      (HostCameToEnd plant) plant.hosts logs
      → AllZip (HostEnded plant rings) plant.hosts logs
  served-ended logs all =
      zip-with (λ (p : HostPlan). IsOn plant p.network p.node)
      (λ (p : HostPlan) (l : HostLog).
      IsBrought gates purses p.network p.node (HostCameToEnd plant p l))
      (HostEnded plant rings)
      (λ p l on b. host-ended host_law plant p l b.side.seen rings
      (low-node plant p.network p.node on)
      (noted-own plant gates purses rings sound closed legal p.network p.node
      (HostCameToEnd plant p l) on b) b.holds)
      plant.hosts logs
      (all-there (λ (p : HostPlan). IsOn plant p.network p.node) plant.hosts
      (λ p there. host-on plant p sound there)) all

  brought-end : (plan : BridgePlan) (log : BridgeLog) (network side : ℕ) → IsBridgePlan plan
      → IsOn plant network side
      → IsBrought gates purses network side (EndCameToEnd plant plan side log.entries)
      → EndEnded plant rings log side
  brought-end plan log network side good on b =
      end-ended plant plan log side b.side.seen rings good
      (low-node plant network side on)
      (noted-own plant gates purses rings sound closed legal network side
      (EndCameToEnd plant plan side log.entries) on b) b.holds

  crossed-ended : (logs : List BridgeLog)
      → AllZip (IsBridgeBrought plant gates purses) plant.bridges logs
      → AllZip (BridgeEnded plant rings) plant.bridges logs
  crossed-ended logs all =
      zip-with (Contains plant.bridges) (IsBridgeBrought plant gates purses)
      (BridgeEnded plant rings)
      (λ p l there b.
      let good = (All-contains (IsBridgeOf plant) plant.bridges p sound.bridges there).plan in
      bridge-ended plant rings p l b.legal
      (brought-end p l p.left_net p.left good (left-on plant p sound there) b.left)
      (brought-end p l p.right_net p.right good (right-on plant p sound there) b.right))
      plant.bridges logs (All-contains_itself plant.bridges) all

  pub run-closes : (logs : List NotedLog) (host_logs : List HostLog)
      (bridge_logs : List BridgeLog) (done : Bool) → done ≡ true
      → IsThrough plant scans gates purses logs host_logs bridge_logs done
      → Closes plant scans (record {
        controllers = map log_part logs;
        hosts = host_logs;
        bridges = bridge_logs;
        rings = rings;
      })
  run-closes logs host_logs bridge_logs done is through =
      closes plant scans (record {
        controllers = map log_part logs;
        hosts = host_logs;
        bridges = bridge_logs;
        rings = rings;
      }) sound (record {
        controllers = ran-ended logs (through.ran is);
        hosts = served-ended host_logs (through.served is);
        bridges = crossed-ended bridge_logs (through.crossed is);
        rings = legal;
      })

  -- so it is of the joint history that is made of them
  pub made-closes : (logs : List NotedLog) (host_logs : List HostLog)
      (bridge_logs : List BridgeLog) (done : Bool) → done ≡ true
      → IsThrough plant scans gates purses logs host_logs bridge_logs done
      → (noted : Noted) → IsMadeOf logs host_logs bridge_logs rings noted
      → Closes plant scans noted.joint
  made-closes logs host_logs bridge_logs done is through noted made =
      let same : noted.joint ≡ record {
        controllers = map log_part logs;
        hosts = host_logs;
        bridges = bridge_logs;
        rings = rings;
      } = λ i. record {
        controllers = made.controllers_are i;
        hosts = made.hosts_are i;
        bridges = made.bridges_are i;
        rings = made.rings_are i;
      } in
      subst (Closes plant scans) (sym same)
      (run-closes logs host_logs bridge_logs done is through)
