-- A turn is deterministic: it gives one pair of lists from those that it begins with, where the
-- lists that it leaves are legal and, at a controller, keep the laws between them. This project's
-- own.
use Rattle.std.specs.Prelude.{◌≡◌, ℕ, Bool, true, List}
use Rattle.plant_types.specs.declared.net.BridgePlan.{BridgePlan}
use Rattle.plant_types.specs.declared.net.HostPlan.{HostPlan}
use Rattle.plant_types.specs.declared.net.NetPlan.{NetPlan}
use Rattle.ring_core.specs.declared.entry.RingEntry.{RingEntry}
use Rattle.ring_core.specs.Legal.{IsLegalRing}
use Rattle.bridge_relay.specs.declared.entry.BridgeEntry.{BridgeEntry}
use Rattle.bridge_relay.specs.Legal.{IsBridgeHistory}
use Rattle.controller_core.specs.declared.fixed.Fixed.{Fixed}
use Rattle.controller_core.specs.declared.entry.Entry.{Entry}
use Rattle.host_port.specs.declared.entry.HostEntry.{HostEntry}
use Rattle.comm_port.specs.Giving.{part_at, NoneFailed, each_path}
use Rattle.comm_port.specs.declared.turn_end.TurnEnd.{TurnEnd}
use Rattle.comm_port.specs.HoldTurn.{VisitsEnd}
use Rattle.comm_port.specs.WholeTurn.{HoldsTurn}
use Rattle.comm_port.specs.HostTurns.{HoldsHostTurn}
use Rattle.bridge_port.specs.EndParts.{HoldsEndTurn}
use Rattle.serial_run.specs.TurnLaws.{StandsTied}

-- Two holds of the token by a controller that begin alike, when none of its calls has failed, end
-- alike.
abbrev pub OneTurn : Type 0
OneTurn =
    (fixed : Fixed) (net : NetPlan) (budget : Bool) (end other_end : TurnEnd)
    (known new_known other_known : List Entry) (ring new_ring other_ring : List RingEntry)
    → NoneFailed each_path (part_at net fixed.plan.node ring)
    → StandsTied fixed net fixed.plan.node known ring
    → HoldsTurn true true fixed net fixed.plan.node budget known new_known ring new_ring end
    → StandsTied fixed net fixed.plan.node new_known new_ring
    → HoldsTurn true true fixed net fixed.plan.node budget known other_known ring other_ring
    other_end → StandsTied fixed net fixed.plan.node other_known other_ring
    → (new_known ≡ other_known) × (new_ring ≡ other_ring) × (end ≡ other_end)

-- Two visits of a controller that begin alike end alike.
abbrev pub OneVisit : Type 0
OneVisit =
    (fixed : Fixed) (net : NetPlan) (known new_known other_known : List Entry)
    (ring new_ring other_ring : List RingEntry)
    → StandsTied fixed net fixed.plan.node known ring
    → VisitsEnd true true fixed net fixed.plan.node known new_known ring new_ring
    → StandsTied fixed net fixed.plan.node new_known new_ring
    → VisitsEnd true true fixed net fixed.plan.node known other_known ring other_ring
    → StandsTied fixed net fixed.plan.node other_known other_ring
    → (new_known ≡ other_known) × (new_ring ≡ other_ring)

-- Two holds of the token by a host that begin alike end alike.
abbrev pub OneHostTurn : Type 0
OneHostTurn =
    (net : NetPlan) (n : ℕ) (plan : HostPlan) (budget left other_left : Bool)
    (list new_list other_list : List HostEntry) (ring new_ring other_ring : List RingEntry)
    → HoldsHostTurn true net n plan budget list new_list ring new_ring left
    → IsLegalRing net new_ring
    → HoldsHostTurn true net n plan budget list other_list ring other_ring other_left
    → IsLegalRing net other_ring
    → (new_list ≡ other_list) × (new_ring ≡ other_ring) × (left ≡ other_left)

-- Two holds of the token by an end of a bridge that begin alike, when none of its calls has failed,
-- end alike.
abbrev pub OneEndTurn : Type 0
OneEndTurn =
    (plan : BridgePlan) (net : NetPlan) (side : ℕ) (budget left other_left : Bool)
    (list new_list other_list : List BridgeEntry) (ring new_ring other_ring : List RingEntry)
    → NoneFailed each_path (part_at net side ring)
    → HoldsEndTurn true true plan net side budget list new_list ring new_ring left
    → IsBridgeHistory plan new_list → IsLegalRing net new_ring
    → HoldsEndTurn true true plan net side budget list other_list ring other_ring other_left
    → IsBridgeHistory plan other_list → IsLegalRing net other_ring
    → (new_list ≡ other_list) × (new_ring ≡ other_ring) × (left ≡ other_left)
