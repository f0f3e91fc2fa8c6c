-- The stations of bridges: a side of the ring of each end. This project's own.
use Rattle.std.specs.Prelude.{◌≡◌, ℕ, List, [], ◌∷◌, None}
use Rattle.std.specs.List.{AllZip}
use Rattle.plant_types.specs.declared.net.BridgePlan.{BridgePlan}
use Rattle.joint_history.specs.declared.joint.BridgeLog.{BridgeLog}
use Rattle.live_workers.specs.declared.stations.Ends.{Ends}
use Rattle.live_workers.specs.declared.stations.Station.{Station}
use Rattle.live_run.specs.Dealing.{IsFreshSide}
use Rattle.live_run.specs.Homes.{IsAtHome, RingGate}
use Rattle.gated_sides.specs.Sides.{GatedRingIs}

-- A station of a bridge.
abbrev pub Crossing : Type 0
Crossing = Station (Ends GatedRingIs) BridgeLog

-- The addresses of both ends.
abbrev pub ends_of_plan : BridgePlan → List ℕ
ends_of_plan plan = plan.left ∷ plan.right ∷ []

-- The sides of both.
abbrev pub sides_of_ends : Crossing → List GatedRingIs
sides_of_ends station = station.ring.left ∷ station.ring.right ∷ []

-- The station of a bridge before the run.
pub record IsFreshBridge (gates : List RingGate) (plan : BridgePlan) (station : Crossing)
    : Type 0 where
  pub left : IsFreshSide gates plan.left_net plan.left station.ring.left
  pub right : IsFreshSide gates plan.right_net plan.right station.ring.right
  pub unlogged : station.log ≡ None

-- Each side of a station is one of the ring of its end's network.
abbrev pub AreEndsAt : List RingGate → List BridgePlan → List Crossing → Type 0
AreEndsAt gates plans stations =
    AllZip (λ plan (station : Crossing). IsAtHome gates plan.left_net station.ring.left
    × IsAtHome gates plan.right_net station.ring.right) plans stations
