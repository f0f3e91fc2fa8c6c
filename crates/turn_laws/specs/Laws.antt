-- What turns, visits and scans keep, and what follows at the end of a run. This project's own.
use Rattle.std.specs.Prelude.{◌≡◌, ◌⊎◌, ℕ, ◌<◌, All, Bool, true, false, not, List, [], ◌++◌, filter}
use Rattle.plant_types.specs.declared.net.NetPlan.{NetPlan}
use Rattle.plant_types.specs.declared.net.HostPlan.{HostPlan}
use Rattle.ring_core.specs.declared.entry.RingEntry.{RingEntry}
use Rattle.ring_core.specs.Legal.{IsLegalRing, IsMember}
use Rattle.controller_core.specs.declared.fixed.Fixed.{Fixed}
use Rattle.controller_core.specs.declared.entry.Entry.{Entry}
use Rattle.controller_core.specs.Controller.{IsLegal}
use Rattle.host_port.specs.declared.entry.HostEntry.{HostEntry}
use Rattle.tied_lists.specs.Own.{own, WentOn}
use Rattle.comm_port.specs.declared.turn_end.TurnEnd.{TurnEnd}
use Rattle.comm_port.specs.declared.turn_end.TurnEnd.TheVariants as ends
use Rattle.comm_port.specs.declared.turn_end.TurnEnd.TheVariants.{Left}
use Rattle.comm_port.specs.Failing.{ComesBack, IsAway}
use Rattle.comm_port.specs.HoldTurn.{VisitsEnd}
use Rattle.comm_port.specs.WholeTurn.{HoldsTurn}
use Rattle.comm_port.specs.HostTurns.{HoldsHostTurn}
use Rattle.turn_laws.specs.KeepsOn.{StandsTied, KeepsOn, HostStandsTied, HostKeepsOn}
use Rattle.turn_laws.specs.KeepsOn.{NoneSpent, is_out_of_ring, leaves_out}
use Rattle.joint_history.specs.Complete.{ControllerIsCompleteOn, HostIsCompleteOn}
use Rattle.joint_history.specs.Reading.{is_ours, has_ended_at, has_started_at, is_off_at}
use Rattle.tied_lists.specs.Waits.{HasLeft, IsOnRing, has_left, status_at}
use Rattle.comm_port.specs.Parts.{calls_waiting}
use Rattle.ring_core.specs.Machine.{addresses, ring_after}
use Rattle.ring_core.specs.declared.status.NodeStatus.{NodeStatus}
use Rattle.ring_core.specs.declared.status.NodeStatus.TheVariants.{In, Away, Gone}

-- A node is in; or it is 0, and each node is out of the ring.
abbrev pub IsInOrNobody : NetPlan → List RingEntry → ℕ → Type 0
IsInOrNobody net ring n = (status_at net ring n ≡ In)
    ⊎ ((n ≡ 0) × ((m : ℕ) → has_left (status_at net ring m) ≡ true))

-- A controller that has no entry yet, on a ring whose node has none, has all that turns keep.
abbrev pub StartsKeep : Type 0
StartsKeep = (fixed : Fixed) (net : NetPlan) (n : ℕ) (ring : List RingEntry) → own n ring ≡ []
    → KeepsOn fixed net n [] ring false

-- A hold of the token by a controller keeps all that turns keep.
abbrev pub TurnsKeepOn : Type 0
TurnsKeepOn =
    (alone_ram alone_ring : Bool) (fixed : Fixed) (net : NetPlan) (n : ℕ) (budget : Bool)
    (end : TurnEnd) (known new_known : List Entry) (ring new_ring : List RingEntry)
    → HoldsTurn alone_ram alone_ring fixed net n budget known new_known ring new_ring end
    → StandsTied fixed net n known ring → StandsTied fixed net n new_known new_ring
    → KeepsOn fixed net n known ring false → KeepsOn fixed net n new_known new_ring (leaves_out end)

-- The turn of a node that is away, whether it comes back or not, keeps all that turns keep.
abbrev pub AwayTurnsKeepOn : Type 0
AwayTurnsKeepOn =
    (alone_ram alone_ring : Bool) (fixed : Fixed) (net : NetPlan) (n : ℕ) (joined : Bool)
    (known new_known : List Entry) (ring new_ring : List RingEntry)
    → ComesBack alone_ram alone_ring fixed n known new_known ring new_ring joined
    → IsAway net ring n
    → StandsTied fixed net n known ring → StandsTied fixed net n new_known new_ring
    → KeepsOn fixed net n known ring true → KeepsOn fixed net n new_known new_ring (not joined)

-- A visit of a controller whose node has left keeps all that turns keep.
abbrev pub VisitsKeepOn : Type 0
VisitsKeepOn =
    (alone_ram alone_ring : Bool) (fixed : Fixed) (net : NetPlan) (n : ℕ)
    (known new_known : List Entry) (ring new_ring : List RingEntry)
    → VisitsEnd alone_ram alone_ring fixed net n known new_known ring new_ring
    → StandsTied fixed net n known ring → StandsTied fixed net n new_known new_ring
    → KeepsOn fixed net n known ring true → KeepsOn fixed net n new_known new_ring true

-- Events of the scan and entries of other nodes keep all that turns keep.
abbrev pub ScansKeepOn : Type 0
ScansKeepOn =
    (fixed : Fixed) (net : NetPlan) (n : ℕ) (entries more : List Entry) (ring : List RingEntry)
    (left : Bool) → IsLegal fixed (entries ++ more) → filter is_ours more ≡ []
    → KeepsOn fixed net n entries ring left → KeepsOn fixed net n (entries ++ more) ring left

-- Entries of other nodes keep what a controller's list and its node's own list keep.
abbrev pub OthersKeepOn : Type 0
OthersKeepOn =
    (fixed : Fixed) (net : NetPlan) (n : ℕ) (entries : List Entry) (ring more : List RingEntry)
    (left : Bool) → own n more ≡ []
    → KeepsOn fixed net n entries ring left → KeepsOn fixed net n entries (ring ++ more) left

-- A controller whose scans have ended and whose calls were collected, and whose node is gone, or
-- away without power, is complete.
abbrev pub ControllersComplete : Type 0
ControllersComplete =
    (fixed : Fixed) (net : NetPlan) (n : ℕ) (entries : List Entry) (ring : List RingEntry)
    → StandsTied fixed net n entries ring → KeepsOn fixed net n entries ring true
    → has_ended_at fixed entries ≡ true → has_started_at fixed entries ≡ false
    → is_out_of_ring (is_off_at fixed entries) (status_at net ring n) ≡ true
    → ControllerIsCompleteOn net ring n fixed entries

-- A host that has no entry yet has all that turns keep; a hold of the token keeps it, and so do
-- entries of other nodes.
abbrev pub HostStartsKeep : Type 0
HostStartsKeep = (plan : HostPlan) (net : NetPlan) (ring : List RingEntry)
    → own plan.node ring ≡ [] → HostKeepsOn plan net [] ring false

-- A hold of the token by a host keeps all that turns keep.
abbrev pub HostTurnsKeepOn : Type 0
HostTurnsKeepOn =
    (alone : Bool) (net : NetPlan) (plan : HostPlan) (budget left : Bool)
    (list new_list : List HostEntry) (ring new_ring : List RingEntry)
    → HoldsHostTurn alone net plan.node plan budget list new_list ring new_ring left
    → HostStandsTied plan net list ring → HostStandsTied plan net new_list new_ring
    → HostKeepsOn plan net list ring false → HostKeepsOn plan net new_list new_ring left

-- Entries of other nodes keep what a host's list and its node's own list keep.
abbrev pub HostOthersKeepOn : Type 0
HostOthersKeepOn =
    (plan : HostPlan) (net : NetPlan) (list : List HostEntry) (ring more : List RingEntry)
    (left : Bool) → own plan.node more ≡ []
    → HostKeepsOn plan net list ring left → HostKeepsOn plan net list (ring ++ more) left

-- A host whose node is gone is complete.
abbrev pub HostsComplete : Type 0
HostsComplete =
    (plan : HostPlan) (net : NetPlan) (list : List HostEntry) (ring : List RingEntry)
    → HostStandsTied plan net list ring → HostKeepsOn plan net list ring true
    → HostIsCompleteOn net ring plan.node plan list

-- Where a turn that ended so leaves its node: as it came back it asks to come in, or is in already.
abbrev pub StandsAs : TurnEnd → NodeStatus → Type 0
StandsAs ends.Passed status = status ≡ In
StandsAs ends.Left status = status ≡ Gone
StandsAs ends.Away status = status ≡ Away
StandsAs ends.Asking status = has_left status ≡ false

-- Where a turn leaves its node; where that is away there is no power, and no call waits.
pub record EndsWhere (fixed : Fixed) (net : NetPlan) (n : ℕ) (end : TurnEnd) (known : List Entry)
    (ring : List RingEntry) : Type 0 where
  pub stands : StandsAs end (status_at net ring n)
  pub off : end ≡ ends.Away → is_off_at fixed known ≡ true
  pub idle : end ≡ ends.Away → calls_waiting n ring ≡ []

abbrev pub TurnsEndWhere : Type 0
TurnsEndWhere =
    (alone_ram alone_ring : Bool) (fixed : Fixed) (net : NetPlan) (n : ℕ) (budget : Bool)
    (end : TurnEnd) (known new_known : List Entry) (ring new_ring : List RingEntry)
    → HoldsTurn alone_ram alone_ring fixed net n budget known new_known ring new_ring end
    → IsOnRing net ring n → IsLegalRing net new_ring
    → EndsWhere fixed net n end new_known new_ring

-- The turn of a node that is away leaves it there exactly where it did not come back.
abbrev pub AwayTurnsEndWhere : Type 0
AwayTurnsEndWhere =
    (alone_ram alone_ring : Bool) (fixed : Fixed) (net : NetPlan) (n : ℕ) (joined : Bool)
    (known new_known : List Entry) (ring new_ring : List RingEntry)
    → ComesBack alone_ram alone_ring fixed n known new_known ring new_ring joined
    → IsOnRing net ring n → IsAway net ring n → IsLegalRing net new_ring
    → has_left (status_at net new_ring n) ≡ not joined

-- Who holds the token is in, unless it is nobody; then no node is in, and none asks to come in.
abbrev pub SomebodyHolds : Type 0
SomebodyHolds = (net : NetPlan) (ring : List RingEntry) → All (λ m. m < addresses) net.members
    → IsLegalRing net ring → IsInOrNobody net ring (ring_after net ring).holder

-- Where a worker has no budget its node leaves for good only once its controller's scans have ended
-- and its calls were collected.
abbrev pub LeavesWhenEnded : Type 0
LeavesWhenEnded =
    (alone_ram alone_ring : Bool) (fixed : Fixed) (net : NetPlan) (n : ℕ)
    (known new_known : List Entry) (ring new_ring : List RingEntry)
    → HoldsTurn alone_ram alone_ring fixed net n false known new_known ring new_ring Left
    → IsLegal fixed new_known
    → (has_ended_at fixed new_known ≡ true) × (has_started_at fixed new_known ≡ false)

-- Events of the scan end with the scans: what is said of a list then is said of it after them.
abbrev pub EndedStays : Type 0
EndedStays =
    (fixed : Fixed) (known new_known : List Entry) (alone : Bool) (added : List Entry)
    → WentOn alone is_ours known added new_known → IsLegal fixed new_known
    → has_ended_at fixed known ≡ true
    → (has_ended_at fixed new_known ≡ true) × (is_off_at fixed new_known ≡ is_off_at fixed known)

-- A visit of a controller whose scans have ended leaves no call uncollected, and power as it was;
-- and its node, which has left, where it was.
abbrev pub VisitsCollect : Type 0
VisitsCollect =
    (alone_ram alone_ring : Bool) (fixed : Fixed) (net : NetPlan) (n : ℕ)
    (known new_known : List Entry) (ring new_ring : List RingEntry)
    → VisitsEnd alone_ram alone_ring fixed net n known new_known ring new_ring
    → HasLeft net ring n → IsLegal fixed new_known → has_ended_at fixed known ≡ true
    → (has_ended_at fixed new_known ≡ true) × (has_started_at fixed new_known ≡ false)
    × (is_off_at fixed new_known ≡ is_off_at fixed known)
    × (status_at net new_ring n ≡ status_at net ring n)

-- In the holds and visits of a worker without a budget no node leaves because its Passes are spent.
abbrev pub TurnsSpendNothing : Type 0
TurnsSpendNothing =
    (alone_ram alone_ring : Bool) (fixed : Fixed) (net : NetPlan) (n : ℕ) (end : TurnEnd)
    (known new_known : List Entry) (ring new_ring : List RingEntry)
    → HoldsTurn alone_ram alone_ring fixed net n false known new_known ring new_ring end
    → NoneSpent (own n ring) → NoneSpent (own n new_ring)

-- As a node that was away comes back, in a host's hold and in a visit, no node leaves because its
-- Passes are spent.
abbrev pub AwayTurnsSpendNothing : Type 0
AwayTurnsSpendNothing =
    (alone_ram alone_ring : Bool) (fixed : Fixed) (n : ℕ) (joined : Bool)
    (known new_known : List Entry) (ring new_ring : List RingEntry)
    → ComesBack alone_ram alone_ring fixed n known new_known ring new_ring joined
    → NoneSpent (own n ring) → NoneSpent (own n new_ring)

abbrev pub HostTurnsSpendNothing : Type 0
HostTurnsSpendNothing =
    (alone : Bool) (net : NetPlan) (n : ℕ) (plan : HostPlan) (left : Bool)
    (list new_list : List HostEntry) (ring new_ring : List RingEntry)
    → HoldsHostTurn alone net n plan false list new_list ring new_ring left
    → NoneSpent (own n ring) → NoneSpent (own n new_ring)

abbrev pub VisitsSpendNothing : Type 0
VisitsSpendNothing =
    (alone_ram alone_ring : Bool) (fixed : Fixed) (net : NetPlan) (n : ℕ)
    (known new_known : List Entry) (ring new_ring : List RingEntry)
    → VisitsEnd alone_ram alone_ring fixed net n known new_known ring new_ring
    → NoneSpent (own n ring) → NoneSpent (own n new_ring)

-- No node left because its Passes were spent, where none of the plant's nodes did.
abbrev pub NobodySpends : Type 0
NobodySpends = (net : NetPlan) (ring : List RingEntry) → IsLegalRing net ring
    → ((n : ℕ) → IsMember net n → NoneSpent (own n ring)) → NoneSpent ring
