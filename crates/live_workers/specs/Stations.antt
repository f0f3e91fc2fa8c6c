-- What a run leaves of its stations. This project's own.
use Rattle.std.specs.Prelude.{◌≡◌, ℕ, true, List, [], All, Some, None, IfSome, map}
use Rattle.std.specs.List.{AllZip}
use Rattle.plant_types.specs.declared.net.HostPlan.{HostPlan}
use Rattle.plant_types.specs.declared.plan.ControllerPlan.{ControllerPlan}
use Rattle.plant_types.specs.declared.plan.Plant.{Plant}
use Rattle.plant_types.specs.declared.net.BridgePlan.{BridgePlan}
use Rattle.plant_types.specs.Plans.{IsBridgePlan, IsHostPlan, IsNetPlan, net_of}
use Rattle.ring_core.specs.Legal.{IsMember}
use Rattle.ring_core.specs.declared.entry.RingEntry.{RingEntry}
use Rattle.controller_core.specs.Machine.{IsRunnable}
use Rattle.controller_core.specs.Notes.{notes_of}
use Rattle.tied_lists.specs.Own.{own}
use Rattle.joint_history.specs.declared.joint.ControllerLog.{ControllerLog}
use Rattle.joint_history.specs.declared.joint.HostLog.{HostLog}
use Rattle.joint_history.specs.declared.joint.BridgeLog.{BridgeLog}
use Rattle.joint_history.specs.JointLaws.{IsLegalBridgeLog, fixed_of}
use Rattle.bridge_relay.specs.declared.entry.BridgeEntry.{BridgeEntry}
use Rattle.bridge_port.specs.EndTurns.{EndTies}
use Rattle.bridge_port.specs.Stands.{own_bridge}
use Rattle.comm_port.specs.HostStands.{own_side}
use Rattle.end_laws.specs.EndKeeps.{EndKeepsOn}
use Rattle.comm_port.specs.Sides.{RingSideIs}
use Rattle.comm_port.specs.Turns.{IsNoBridge}
use Rattle.turn_laws.specs.KeepsOn.{HasFinishedOn, HostHasFinishedOn, NoneSpent}
use Rattle.live_workers.specs.declared.stations.NotedLog.{NotedLog}
use Rattle.live_workers.specs.declared.stations.Ends.{Ends}
use Rattle.live_workers.specs.declared.stations.Station.{Station}

-- A controller's program can run.
abbrev pub CanRun : Plant → ℕ → ControllerPlan → Type 0
CanRun plant scans plan = IsRunnable (fixed_of plant scans plan)

-- Each controller of these plans can run, and each host can serve.
abbrev pub CanRunAll : Plant → ℕ → List ControllerPlan → Type 0
CanRunAll plant scans plans = All (CanRun plant scans) plans

abbrev pub CanServeAll : List HostPlan → Type 0
CanServeAll plans = All IsHostPlan plans

-- Each of these is the plan of a bridge.
abbrev pub AreBridgePlans : List BridgePlan → Type 0
AreBridgePlans plans = All IsBridgePlan plans

-- A side of the ring of a node's network, which writes in its name alone and has seen nothing.
pub record IsUnusedEnd {Q : Type 0} (plant : Plant) (node : ℕ) (side : RingSideIs Q)
    (known : List RingEntry) : Type 0 where
  pub sound : IsNetPlan (net_of plant node)
  pub member : IsMember (net_of plant node) node
  pub net : side.net ≡ net_of plant node
  pub writer : side.writer ≡ Some node
  pub nothing : known ≡ []

-- A side of the ring of a station's node, which writes in its name alone and has seen nothing; the
-- node is not the end of a bridge.
pub record IsUnused {Q : Type 0} (plant : Plant) (node : ℕ) (side : RingSideIs Q)
    (known : List RingEntry) : Type 0 where
  pub unused : IsUnusedEnd plant node side known
  pub no_bridge : IsNoBridge (net_of plant node) node

-- A controller came to its end, as its history and what its node has seen of its ring tell.
pub record CameToEnd (plant : Plant) (scans : ℕ) (plan : ControllerPlan) (log : ControllerLog)
    (ring : List RingEntry) : Type 0 where
  pub node : log.node ≡ plan.node
  pub finished : HasFinishedOn (net_of plant plan.node) plant scans ring plan log
  pub unspent : NoneSpent (own plan.node ring)

-- A controller came to its end, and what it noted of its panel is what its history has noted.
pub record CameNoted (plant : Plant) (scans : ℕ) (plan : ControllerPlan) (noted : NotedLog)
    (ring : List RingEntry) : Type 0 where
  pub came : CameToEnd plant scans plan noted.log ring
  pub notes : noted.notes ≡ notes_of (fixed_of plant scans plan) noted.log.entries

-- A host came to its end, as its history and what its node has seen of its ring tell.
pub record HostCameToEnd (plant : Plant) (plan : HostPlan) (log : HostLog)
    (ring : List RingEntry) : Type 0 where
  pub finished : HostHasFinishedOn (net_of plant plan.node) ring plan log
  pub unspent : NoneSpent (own plan.node ring)

-- An end of a bridge came to its end, as the bridge's list and what its node has seen of its ring
-- tell.
pub record EndCameToEnd (plant : Plant) (plan : BridgePlan) (side : ℕ) (list : List BridgeEntry)
    (ring : List RingEntry) : Type 0 where
  pub ties : EndTies side (own_bridge plan) list (own_side (net_of plant side)) ring
  pub keeps : EndKeepsOn plan (net_of plant side) side list ring true
  pub unspent : NoneSpent (own side ring)

-- A bridge came to its end: its list is legal, and each of its two ends came to its end.
pub record BridgeCameToEnd (plant : Plant) (plan : BridgePlan) (log : BridgeLog)
    (left right : List RingEntry) : Type 0 where
  pub legal : IsLegalBridgeLog plan log
  pub left_end : EndCameToEnd plant plan plan.left log.entries left
  pub right_end : EndCameToEnd plant plan plan.right log.entries right

module _ {S K L : Type 0} (side : S → K) where
  abbrev pub sides_of : List (Station S L) → List K
  sides_of stations = map (λ station. side station.ring) stations

  -- All stations have run, and their sides are the same.
  pub record RanEach {P : Type 0} (Ran : P → Station S L → Type 0) (plans : List P)
      (old new : List (Station S L)) : Type 0 where
    pub ran : AllZip Ran plans new
    pub sides : sides_of new ≡ sides_of old

module _ {S Q L : Type 0} (side : S → RingSideIs Q) where
  -- The station of a node has not run.
  pub record IsFresh (known : S → List RingEntry) (plant : Plant) (node : ℕ)
      (station : Station S L) : Type 0 where
    pub unused : IsUnused plant node (side station.ring) (known station.ring)
    pub unlogged : station.log ≡ None

  -- The stations of the nodes of these plans have not run.
  abbrev pub AreFresh : {P : Type 0} → (S → List RingEntry) → Plant → (P → ℕ) → List P
      → List (Station S L) → Type 0
  AreFresh known plant node_of plans stations =
      AllZip (λ plan station. IsFresh known plant (node_of plan) station) plans stations

-- Where a station has a history, its controller came to its end, and its notes are beside it.
abbrev pub HasRun : {S : Type 0} → (S → List RingEntry) → Plant → ℕ → ControllerPlan
    → Station S NotedLog → Type 0
HasRun known plant scans plan station =
    IfSome station.log (λ noted. CameNoted plant scans plan noted (known station.ring))

-- Where a station has a history, its host came to its end.
abbrev pub HostHasRun : {S : Type 0} → (S → List RingEntry) → Plant → HostPlan
    → Station S HostLog → Type 0
HostHasRun known plant plan station =
    IfSome station.log (λ log. HostCameToEnd plant plan log (known station.ring))

-- The stations of these controllers have not run.
abbrev pub AreControllersFresh : {S Q : Type 0} → (S → RingSideIs Q) → (S → List RingEntry) → Plant
    → List ControllerPlan → List (Station S NotedLog) → Type 0
AreControllersFresh side known plant plans stations =
    AreFresh side known plant (λ plan. plan.node) plans stations

-- The stations of these hosts have not run.
abbrev pub AreHostsFresh : {S Q : Type 0} → (S → RingSideIs Q) → (S → List RingEntry) → Plant
    → List HostPlan → List (Station S HostLog) → Type 0
AreHostsFresh side known plant plans stations =
    AreFresh side known plant (λ plan. plan.node) plans stations

-- The controllers and hosts of a plant can run, and their stations have not.
pub record AreNodesReady {S Q : Type 0} (side : S → RingSideIs Q) (known : S → List RingEntry)
    (plant : Plant) (scans : ℕ) (stations : List (Station S NotedLog))
    (host_stations : List (Station S HostLog)) : Type 0 where
  pub can_run : CanRunAll plant scans plant.controllers
  pub can_serve : CanServeAll plant.hosts
  pub fresh : AreControllersFresh side known plant plant.controllers stations
  pub fresh_hosts : AreHostsFresh side known plant plant.hosts host_stations

-- The stations of these controllers have run, and their sides are the same.
abbrev pub AllRan : {S Q : Type 0} → (S → RingSideIs Q) → (S → List RingEntry) → Plant → ℕ
    → List ControllerPlan → List (Station S NotedLog) → List (Station S NotedLog) → Type 0
AllRan side known plant scans plans old new =
    RanEach side (HasRun known plant scans) plans old new

-- The stations of these hosts have run, and their sides are the same.
abbrev pub AllServed : {S Q : Type 0} → (S → RingSideIs Q) → (S → List RingEntry) → Plant
    → List HostPlan → List (Station S HostLog) → List (Station S HostLog) → Type 0
AllServed side known plant plans old new = RanEach side (HostHasRun known plant) plans old new

-- The sides of both ends of a bridge.
abbrev pub ends_side : {S K : Type 0} → (S → K) → Ends S → K × K
ends_side side ends = (side ends.left, side ends.right)

-- The station of a bridge has not run.
pub record IsBridgeFresh {S Q : Type 0} (side : S → RingSideIs Q) (known : S → List RingEntry)
    (plant : Plant) (plan : BridgePlan) (station : Station (Ends S) BridgeLog) : Type 0 where
  pub left : IsUnusedEnd plant plan.left (side station.ring.left) (known station.ring.left)
  pub right : IsUnusedEnd plant plan.right (side station.ring.right) (known station.ring.right)
  pub unlogged : station.log ≡ None

-- No station of these bridges has run.
abbrev pub AreBridgesFresh : {S Q : Type 0} → (S → RingSideIs Q) → (S → List RingEntry) → Plant
    → List BridgePlan → List (Station (Ends S) BridgeLog) → Type 0
AreBridgesFresh side known plant plans stations =
    AllZip (IsBridgeFresh side known plant) plans stations

-- The bridges of a plant can run, and their stations have not.
pub record AreBridgesReady {S Q : Type 0} (side : S → RingSideIs Q) (known : S → List RingEntry)
    (plant : Plant) (stations : List (Station (Ends S) BridgeLog)) : Type 0 where
  pub plans : AreBridgePlans plant.bridges
  pub fresh : AreBridgesFresh side known plant plant.bridges stations

-- Where a station has a history, both ends of its bridge came to their ends.
abbrev pub BridgeHasRun : {S : Type 0} → (S → List RingEntry) → Plant → BridgePlan
    → Station (Ends S) BridgeLog → Type 0
BridgeHasRun known plant plan station = IfSome station.log
    (λ log. BridgeCameToEnd plant plan log (known station.ring.left) (known station.ring.right))

-- The stations of these bridges have run, and their sides are the same.
abbrev pub AllCrossed : {S Q : Type 0} → (S → RingSideIs Q) → (S → List RingEntry) → Plant
    → List BridgePlan → List (Station (Ends S) BridgeLog) → List (Station (Ends S) BridgeLog)
    → Type 0
AllCrossed side known plant plans old new =
    RanEach (ends_side side) (BridgeHasRun known plant) plans old new
