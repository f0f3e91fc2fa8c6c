-- What the workers of the ends of a bridge keep from turn to turn, and the bridge's gate behind
-- both of them. This project's own.
use Rattle.std.specs.Prelude.{◌≡◌, ℕ, Bool, true, false, List, [], ◌∷◌, Some}
use Rattle.turn_gate.specs.Known.{GateFacts, HasAllBack, IsOutside, PassFacts, made_by}
use Rattle.plant_types.specs.declared.net.BridgePlan.{BridgePlan}
use Rattle.plant_types.specs.declared.plan.Plant.{Plant}
use Rattle.plant_types.specs.Plans.{IsBridgePlan, net_of}
use Rattle.ring_core.specs.Legal.{IsMember}
use Rattle.ring_core.specs.declared.entry.RingEntry.{RingEntry}
use Rattle.bridge_relay.specs.declared.entry.BridgeEntry.{BridgeEntry}
use Rattle.bridge_relay.specs.Legal.{IsOpenEnd}
use Rattle.bridge_relay.specs.Machine.{side_of}
use Rattle.tied_lists.specs.Own.{own}
use Rattle.comm_port.specs.declared.ring_side.RingSide as ring_sides
use Rattle.comm_port.specs.Leaving.{IsHere}
use Rattle.comm_port.specs.Sides.{RingSideIs}
use Rattle.bridge_port.specs.declared.bridge_side.BridgeSide as bridge_sides
use Rattle.bridge_port.specs.EndTurns.{EndTies}
use Rattle.bridge_port.specs.Sides.{BridgeSideIs}
use Rattle.end_laws.specs.EndKeeps.{EndKeepsOn}
use Rattle.turn_laws.specs.KeepsOn.{NoneSpent}
use Rattle.gated_sides.specs.Sides.{GatedBridgeIs}
use Rattle.live_workers.specs.declared.stations.Ends.{Ends}

-- ---- One end.

-- A worker of an end, without a budget, stands between two turns.
pub record TendsOn {P Q : Type 0} (n : ℕ) (bridge : BridgeSideIs P) (list : List BridgeEntry)
    (side : RingSideIs Q) (ring : List RingEntry) (left : Bool) : Type 0 where
  pub plan : IsBridgePlan bridge.plan
  pub ties : EndTies n bridge list side ring
  pub is_open : left ≡ false → IsOpenEnd bridge.plan list n
  pub here : left ≡ false → IsHere side.net ring n
  pub unspent : NoneSpent (own n ring)
  pub keeps : EndKeepsOn bridge.plan side.net n list ring left

-- A bridge's two ends are members of their networks.
abbrev pub AreEndsMembers : Plant → BridgePlan → Type 0
AreEndsMembers plant plan = IsMember (net_of plant plan.left) plan.left
    × IsMember (net_of plant plan.right) plan.right

module _ {B P R Q : Type 0} (b : bridge_sides.Ghosts B P) (r : ring_sides.Ghosts R Q) where
  -- A worker of a bridge's end stands between two turns at these two sides.
  abbrev pub TendsOver : ℕ → B → R → Bool → Type 0
  TendsOver n bridge ring left =
      TendsOn n (b.bridge bridge) (b.known bridge) (r.side ring) (r.known ring) left

-- What the side of an end over the bridge's gate keeps.
abbrev pub gate_side : GateFacts BridgeEntry BridgePlan → ℕ
    → BridgeSideIs (GateFacts BridgeEntry BridgePlan)
gate_side gate n = record { plan = gate.fixed; writer = Some n; place = gate }

abbrev pub bridge_side : GatedBridgeIs → BridgeSideIs (GateFacts BridgeEntry BridgePlan)
bridge_side s = gate_side s.gate s.number

module _ {R Q : Type 0} (r : ring_sides.Ghosts R Q) where
  -- A worker of a bridge's end stands between two turns at a side over the bridge's gate.
  abbrev pub TendsAt : ℕ → GatedBridgeIs → R → Bool → Type 0
  TendsAt n s ring left = TendsOn n (bridge_side s) s.seen (r.side ring) (r.known ring) left

  -- ---- Both ends.

  -- Pass 0 of the bridge's gate has the passes of both workers back; where they came so far, both
  -- ends have left.
  pub record AreBothBack (gate : GateFacts BridgeEntry BridgePlan) (plan : BridgePlan)
      (ends : Ends R) (p : PassFacts BridgeEntry) (done : Bool) : Type 0 where
    pub left_seen : List BridgeEntry
    pub right_seen : List BridgeEntry
    pub gate_is : p.gate ≡ gate.name
    pub outside : IsOutside p
    pub is_zero : p.number ≡ 0
    pub all_back : HasAllBack p
    pub joined_is : p.joined ≡ (plan.left, made_by side_of plan.left left_seen)
        ∷ (plan.right, made_by side_of plan.right right_seen) ∷ []
    pub heard_is : p.heard ≡ left_seen ∷ right_seen ∷ []
    pub left : done ≡ true → TendsOn plan.left (gate_side gate plan.left) left_seen
        (r.side ends.left) (r.known ends.left) true
    pub right : done ≡ true → TendsOn plan.right (gate_side gate plan.right) right_seen
        (r.side ends.right) (r.known ends.right) true
