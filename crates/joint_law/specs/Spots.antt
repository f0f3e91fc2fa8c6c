-- What a judge's verdict says of a joint history. This project's own.
use Rattle.std.specs.Prelude.{◌≡◌, ℕ, ◌<◌, List, map, Option, Some, None}
use Rattle.std.specs.List.{All, AllZip, Any, zip}
use Rattle.plant_types.specs.declared.net.BridgePlan.{BridgePlan}
use Rattle.plant_types.specs.declared.net.HostPlan.{HostPlan}
use Rattle.plant_types.specs.declared.net.NetPlan.{NetPlan}
use Rattle.plant_types.specs.declared.plan.Plant.{Plant}
use Rattle.plant_types.specs.Plans.{IsPlant, controller_nodes, host_nodes, net_numbers}
use Rattle.ring_core.specs.Legal.{IsLegalRing}
use Rattle.bridge_relay.specs.Legal.{IsBridgeHistory}
use Rattle.controller_core.specs.Controller.{IsLegal}
use Rattle.controller_core.specs.Machine.{IsRunnable}
use Rattle.host_port.specs.Legal.{IsHostHistory}
use Rattle.joint_history.specs.declared.joint.ControllerLog.{ControllerLog}
use Rattle.joint_history.specs.declared.joint.HostLog.{HostLog}
use Rattle.joint_history.specs.declared.joint.BridgeLog.{BridgeLog}
use Rattle.joint_history.specs.declared.joint.RingLog.{RingLog}
use Rattle.joint_history.specs.declared.joint.Joint.{Joint}
use Rattle.joint_history.specs.Complete.{IsComplete, IsCompleteHostLog, IsCompleteLog}
use Rattle.joint_history.specs.Complete.{IsCompleteSide}
use Rattle.joint_history.specs.JointLaws.{IsJoint, IsLegalBridgeLog, IsLegalHostLog, IsLegalJoint}
use Rattle.joint_history.specs.JointLaws.{IsLegalLog, IsLegalRingLog, fixed_of, logged}
use Rattle.station_laws.specs.Bound.{Bound, BreaksLaw, KeepsLaw, bounds_of, number_of}
use Rattle.station_laws.specs.Differing.{BreaksAt}
use Rattle.station_laws.specs.declared.law.Law.{Law}
use Rattle.joint_law.specs.declared.verdict.Spot.{Spot}
use Rattle.joint_law.specs.declared.verdict.Spot.TheVariants as spots
use Rattle.joint_law.specs.declared.verdict.Verdict.{Verdict}
use Rattle.joint_law.specs.declared.verdict.Verdict.TheVariants.{Legal, Illegal}

-- A plant whose controllers can make so many scans.
pub record CanBeJudged (plant : Plant) (scans : ℕ) : Type 0 where
  pub sound : IsPlant plant
  pub runs : All (λ plan. IsRunnable (fixed_of plant scans plan)) plant.controllers

-- The lists are those of the plant's controllers, hosts, bridges and networks, in its order; that
-- of a bridge is under both of its addresses.
pub record HasSections (plant : Plant) (joint : Joint) : Type 0 where
  pub controllers : map (λ (log : ControllerLog). log.node) joint.controllers
      ≡ controller_nodes plant
  pub hosts : map (λ (log : HostLog). log.node) joint.hosts ≡ host_nodes plant
  pub lefts : map (λ (log : BridgeLog). log.left) joint.bridges
      ≡ map (λ (plan : BridgePlan). plan.left) plant.bridges
  pub rights : map (λ (log : BridgeLog). log.right) joint.bridges
      ≡ map (λ (plan : BridgePlan). plan.right) plant.bridges
  pub rings : map (λ (log : RingLog). log.network) joint.rings ≡ net_numbers plant

-- Each host of a plant with its log, in rising address.
abbrev pub hosts_logged : Plant → Joint → List (HostPlan × HostLog)
hosts_logged plant joint = zip plant.hosts joint.hosts

-- Each bridge of a plant with its log, in rising left address.
abbrev pub bridges_logged : Plant → Joint → List (BridgePlan × BridgeLog)
bridges_logged plant joint = zip plant.bridges joint.bridges

-- Each network of a plant with its ring's log, in rising number.
abbrev pub rings_logged : Plant → Joint → List (NetPlan × RingLog)
rings_logged plant joint = zip plant.nets joint.rings

-- The lists of all controllers are legal.
abbrev pub AreLegalLogs : Plant → ℕ → Joint → Type 0
AreLegalLogs plant scans joint =
    AllZip (IsLegalLog plant scans) plant.controllers joint.controllers

-- The lists of all hosts are legal.
abbrev pub AreLegalHostLogs : Plant → Joint → Type 0
AreLegalHostLogs plant joint = AllZip IsLegalHostLog plant.hosts joint.hosts

-- The lists of all bridges are legal.
abbrev pub AreLegalBridgeLogs : Plant → Joint → Type 0
AreLegalBridgeLogs plant joint = AllZip IsLegalBridgeLog plant.bridges joint.bridges

-- The lists of all rings are legal.
abbrev pub AreLegalRingLogs : Plant → Joint → Type 0
AreLegalRingLogs plant joint = AllZip IsLegalRingLog plant.nets joint.rings

-- The first controller whose list isn't legal, and the entry that makes it so.
pub record ControllerSpot (plant : Plant) (scans : ℕ) (joint : Joint) (node entry : ℕ)
    : Type 0 where
  pub sections : HasSections plant joint
  pub earlier : All
      (λ of. of.1.node < node → IsLegal (fixed_of plant scans of.0) of.1.entries)
      (logged plant joint)
  pub here : Any
      (λ of. (of.1.node ≡ node)
      × BreaksAt (IsLegal (fixed_of plant scans of.0)) of.1.entries entry)
      (logged plant joint)

-- The first host whose list isn't legal, and the entry that makes it so.
pub record HostSpot (plant : Plant) (scans : ℕ) (joint : Joint) (node entry : ℕ) : Type 0 where
  pub sections : HasSections plant joint
  pub controllers : AreLegalLogs plant scans joint
  pub earlier : All (λ of. of.1.node < node → IsHostHistory of.0 of.1.entries)
      (hosts_logged plant joint)
  pub here : Any
      (λ of. (of.1.node ≡ node) × BreaksAt (IsHostHistory of.0) of.1.entries entry)
      (hosts_logged plant joint)

-- The first bridge whose list isn't legal, by its left address, and the entry that makes it so.
pub record BridgeSpot (plant : Plant) (scans : ℕ) (joint : Joint) (left entry : ℕ) : Type 0 where
  pub sections : HasSections plant joint
  pub controllers : AreLegalLogs plant scans joint
  pub hosts : AreLegalHostLogs plant joint
  pub earlier : All (λ of. of.1.left < left → IsBridgeHistory of.0 of.1.entries)
      (bridges_logged plant joint)
  pub here : Any
      (λ of. (of.1.left ≡ left) × BreaksAt (IsBridgeHistory of.0) of.1.entries entry)
      (bridges_logged plant joint)

-- The first network whose ring's list isn't legal, and the entry that makes it so.
pub record RingSpot (plant : Plant) (scans : ℕ) (joint : Joint) (network entry : ℕ) : Type 0 where
  pub sections : HasSections plant joint
  pub controllers : AreLegalLogs plant scans joint
  pub hosts : AreLegalHostLogs plant joint
  pub bridges : AreLegalBridgeLogs plant joint
  pub earlier : All (λ of. of.1.network < network → IsLegalRing of.0 of.1.entries)
      (rings_logged plant joint)
  pub here : Any
      (λ of. (of.1.network ≡ network) × BreaksAt (IsLegalRing of.0) of.1.entries entry)
      (rings_logged plant joint)

-- The first law that is broken, the first station that breaks it, and where its two lists differ.
pub record LawSpot (plant : Plant) (scans : ℕ) (joint : Joint) (law : Law) (node place : ℕ)
    : Type 0 where
  pub legal : IsLegalJoint plant scans joint
  pub laws : (other : Law) → number_of other < number_of law
      → All (KeepsLaw other) (bounds_of joint)
  pub earlier : All (λ (s : Bound). s.node < node → KeepsLaw law s) (bounds_of joint)
  pub here : Any (λ (s : Bound). (s.node ≡ node) × BreaksLaw law s place) (bounds_of joint)

-- An end of a bridge is complete, if it is at this address.
abbrev pub IsCompleteEndAt : Plant → List RingLog → ℕ → BridgeLog → ℕ → Type 0
IsCompleteEndAt plant rings node log side = side ≡ node → IsCompleteSide plant rings log side

-- Each end of a bridge is complete, if it is at this address.
abbrev pub AreCompleteEndsAt : Plant → List RingLog → ℕ → BridgeLog → Type 0
AreCompleteEndsAt plant rings node log =
    IsCompleteEndAt plant rings node log log.left × IsCompleteEndAt plant rings node log log.right

-- The stations and the ends of bridges at an address are complete.
pub record IsCompleteAt (plant : Plant) (scans : ℕ) (joint : Joint) (node : ℕ) : Type 0 where
  pub controllers : All
      (λ of. of.1.node ≡ node → IsCompleteLog plant scans joint.rings of.0 of.1)
      (logged plant joint)
  pub hosts : All
      (λ of. of.1.node ≡ node → IsCompleteHostLog plant joint.rings of.0 of.1)
      (hosts_logged plant joint)
  pub bridges : All (λ of. AreCompleteEndsAt plant joint.rings node of.1)
      (bridges_logged plant joint)

-- The first address at which not all is complete.
pub record IncompleteSpot (plant : Plant) (scans : ℕ) (joint : Joint) (node : ℕ) : Type 0 where
  pub legal : IsLegalJoint plant scans joint
  pub tied : IsJoint joint
  pub earlier : (n : ℕ) → n < node → IsCompleteAt plant scans joint n
  pub here : IsCompleteAt plant scans joint node → ⊥

-- A complete run: its lists are legal, keep the laws between them, and are complete.
pub record IsWholeRun (plant : Plant) (scans : ℕ) (joint : Joint) : Type 0 where
  pub legal : IsLegalJoint plant scans joint
  pub tied : IsJoint joint
  pub complete : IsComplete plant scans joint

-- What each spot says.
abbrev pub IsSpot : Plant → ℕ → Joint → Spot → Type 0
IsSpot plant scans joint spots.Sections = HasSections plant joint → ⊥
IsSpot plant scans joint (spots.Controller node entry) =
    ControllerSpot plant scans joint node entry
IsSpot plant scans joint (spots.Host node entry) = HostSpot plant scans joint node entry
IsSpot plant scans joint (spots.Bridge left entry) = BridgeSpot plant scans joint left entry
IsSpot plant scans joint (spots.Ring network entry) = RingSpot plant scans joint network entry
IsSpot plant scans joint (spots.Law number node place) =
    (law : Law) × (number_of law ≡ number) × LawSpot plant scans joint law node place
IsSpot plant scans joint (spots.Incomplete node) = IncompleteSpot plant scans joint node

-- The first spot of a joint history; none where it is a complete run.
abbrev pub IsFirstSpot : Plant → ℕ → Joint → Option Spot → Type 0
IsFirstSpot plant scans joint None = IsWholeRun plant scans joint
IsFirstSpot plant scans joint (Some spot) = IsSpot plant scans joint spot

-- What a verdict says.
abbrev pub IsVerdict : Plant → ℕ → Joint → Verdict → Type 0
IsVerdict plant scans joint Legal = IsWholeRun plant scans joint
IsVerdict plant scans joint (Illegal spot) = IsSpot plant scans joint spot
