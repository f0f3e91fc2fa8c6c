-- What a station's own turn did to it and to the ring. This project's own.
use Rattle.std.specs.Prelude.{◌≡◌, ◌≢◌, ℕ, ◌+◌, ◌-◌, ◌*◌, ◌<◌, ◌≤◌, ◌==◌, ◌&&◌, Bool, true, false}
use Rattle.std.specs.Prelude.{not, List, ◌++◌, if◌then◌else◌, nat_lt, Option, Some, None, replicate}
use Rattle.std.specs.List.{All, AllZip, sum_by, count_by, position, slice_get}
use Rattle.plant_types.specs.declared.net.NetPlan.{NetPlan}
use Rattle.ring_core.specs.declared.entry.RingEntry.{RingEntry}
use Rattle.ring_core.specs.declared.status.NodeStatus.{NodeStatus}
use Rattle.ring_core.specs.declared.status.NodeStatus.TheVariants.{In, Away, Asking, Gone}
use Rattle.ring_core.specs.Kept.{KeptRing, ring_of}
use Rattle.ring_core.specs.Legal.{IsLegalRing}
use Rattle.ring_core.specs.Machine.{is_held, is_in}
use Rattle.controller_core.specs.Controller.{IsLegal, has_started, is_off, state_of}
use Rattle.tied_lists.specs.Items.{latest_down}
use Rattle.tied_lists.specs.Own.{own}
use Rattle.tied_lists.specs.Waits.{Holds, status_at}
use Rattle.joint_history.specs.Complete.{is_pass}
use Rattle.bridge_station.specs.Station.{end_has_left}
use Rattle.comm_port.specs.declared.turn_end.TurnEnd.{TurnEnd}
use Rattle.comm_port.specs.HoldTurn.{VisitsEnd}
use Rattle.comm_port.specs.WholeTurn.{HoldsTurn}
use Rattle.comm_port.specs.HostTurns.{CountsPasses, HoldsHostTurn, HostTies}
use Rattle.comm_port.specs.Worker.{IsMemberWorker, IsSameWorker, Standing}
use Rattle.comm_port.specs.HostStands.{own_side}
use Rattle.bridge_station.specs.TurnLaws.{leaves_out, EndsWhere, HostKeepsOn, KeepsOn}
use Rattle.serial_run.specs.declared.order.Turn.TheVariants.{Hold}
use Rattle.serial_run.specs.declared.stations.BridgeSite.{BridgeSite}
use Rattle.serial_run.specs.declared.stations.ControllerStation.{ControllerStation}
use Rattle.serial_run.specs.declared.stations.HostStation.{HostStation}
use Rattle.serial_run.specs.declared.stations.RingStation.{RingStation}
use Rattle.serial_run.specs.declared.stations.Stations.{Stations}
use Rattle.serial_run.specs.Turns.{coming_back, may_visit, node_has_left, MakesTurn, MakesTurns}
use Rattle.serial_run.specs.Scans.{KeepScans}
use Rattle.serial_run.specs.Stations.{Did, plain_ram_side, station_ring, ring_on, station_on}

-- A controller's station beside the ring alone.
abbrev pub StandsBeside : ControllerStation → KeptRing → Type 0
StandsBeside station ring = Standing station.worker (plain_ram_side station.controller)
    station.controller.history (own_side ring.net) ring.history

-- A host's station beside the ring alone.
pub record HostStandsBeside (station : HostStation) (ring : KeptRing) : Type 0 where
  pub ties : HostTies station.worker.node station.host (own_side ring.net) ring.history
  pub counts : CountsPasses station.worker ring.history

-- The node of a station holds the token.
abbrev pub HasToken : ℕ → KeptRing → Type 0
HasToken node ring = Holds ring.net ring.history node

-- A station knows whether its node has left.
abbrev pub KnowsLeft : ControllerStation → KeptRing → Type 0
KnowsLeft station ring =
    station.left ≡ node_has_left ring.net ring.history station.worker.node

-- What the lists of a controller's station keep from turn to turn.
pub record KeepsBeside (station : ControllerStation) (ring : KeptRing) : Type 0 where
  pub member : IsMemberWorker ring.net station.worker.node
  pub legal : IsLegal station.controller.fixed station.controller.history
  pub keeps : KeepsOn station.controller.fixed ring.net station.worker.node
      station.controller.history ring.history station.left

-- What the lists of a host's station keep from turn to turn.
abbrev pub HostKeepsBeside : HostStation → KeptRing → Type 0
HostKeepsBeside station ring =
    HostKeepsOn station.host.plan ring.net station.host.history ring.history station.left

-- Where the node of a station stands.
abbrev pub status_in : KeptRing → ℕ → NodeStatus
status_in ring node = status_at ring.net ring.history node

-- A node left as its power failed, and has not asked to come in since.
abbrev pub is_away_status : NodeStatus → Bool
is_away_status In = false
is_away_status Away = true
is_away_status Asking = false
is_away_status Gone = false

abbrev pub is_away : KeptRing → ℕ → Bool
is_away ring node = is_away_status (status_in ring node)

-- A node is a member now.
abbrev pub is_in_ring : KeptRing → ℕ → Bool
is_in_ring ring node = is_in (status_in ring node)

-- A station whose node is away has no power.
abbrev pub IsOffAway : KeptRing → ControllerStation → Type 0
IsOffAway ring station = is_away ring station.node ≡ true → is_off station.controller ≡ true

-- A station's visit is due.
abbrev pub is_visit_due : KeptRing → ControllerStation → Bool
is_visit_due ring station =
    may_visit station.controller.fixed station.controller.history (status_in ring station.node)
    && has_started station.controller

abbrev pub IsVisited : KeptRing → ControllerStation → Type 0
IsVisited ring station = is_visit_due ring station ≡ false

-- All stations have something, each with the ring of its network.
abbrev pub AllHave : (KeptRing → ControllerStation → Type 0) → Stations → Type 0
AllHave Has run =
    All (λ (station : ControllerStation). Has (station_ring run station.network) station)
    run.controllers.items

-- Stations that had it still have.
abbrev pub Stay : (KeptRing → ControllerStation → Type 0) → Stations → Stations → Type 0
Stay Has old new = AllZip
    (λ (a b : ControllerStation).
    Has (station_ring old a.network) a → Has (station_ring new b.network) b)
    old.controllers.items new.controllers.items

-- The station of a node has it, and the others that had still have.
pub record Gains (Has : KeptRing → ControllerStation → Type 0) (node : ℕ)
    (rings new_rings : List RingStation) (old new : ControllerStation) : Type 0 where
  pub stays : Has (ring_on rings old.network) old → Has (ring_on new_rings new.network) new
  pub gains : old.node ≡ node → Has (ring_on new_rings new.network) new

abbrev pub GainFor : (KeptRing → ControllerStation → Type 0) → ℕ → Stations → Stations → Type 0
GainFor Has node old new =
    AllZip (Gains Has node old.rings.items new.rings.items) old.controllers.items
    new.controllers.items

-- What no turn changes of a controller's station, and that its lists are legal.
pub record StaysStation (old new : ControllerStation) (ring new_ring : KeptRing) : Type 0 where
  pub node : new.node ≡ old.node
  pub network : new.network ≡ old.network
  pub worker : IsSameWorker old.worker new.worker
  pub fixed : new.controller.fixed ≡ old.controller.fixed
  pub legal : IsLegal new.controller.fixed new.controller.history
  pub net : new_ring.net ≡ ring.net
  pub ring_legal : IsLegalRing new_ring.net new_ring.history
  pub stands : StandsBeside new new_ring

-- A controller's station made its hold turn.
pub record HeldController (old new : ControllerStation) (ring new_ring : KeptRing) : Type 0 where
  pub stays : StaysStation old new ring new_ring
  pub end : TurnEnd
  pub turn : HoldsTurn true true old.controller.fixed ring.net old.worker.node old.worker.budget
      old.controller.history new.controller.history ring.history new_ring.history end
  pub ends_where : EndsWhere old.controller.fixed ring.net old.worker.node end
      new.controller.history new_ring.history
  pub left_is : new.left ≡ leaves_out end
  pub left : new.left ≡ node_has_left ring.net new_ring.history old.worker.node
  pub keeps : KeepsOn old.controller.fixed ring.net old.worker.node new.controller.history
      new_ring.history new.left

-- A host's station made its hold turn.
pub record HeldHost (old new : HostStation) (ring new_ring : KeptRing) : Type 0 where
  pub node : new.node ≡ old.node
  pub network : new.network ≡ old.network
  pub worker_node : new.worker.node ≡ old.worker.node
  pub budget : new.worker.budget ≡ old.worker.budget
  pub plan : new.host.plan ≡ old.host.plan
  pub net : new_ring.net ≡ ring.net
  pub ring_legal : IsLegalRing new_ring.net new_ring.history
  pub stands : HostStandsBeside new new_ring
  pub turn : HoldsHostTurn true ring.net old.worker.node old.host.plan old.worker.budget
      old.host.history new.host.history ring.history new_ring.history new.left
  pub left : new.left ≡ node_has_left ring.net new_ring.history old.worker.node
  pub keeps : HostKeepsOn old.host.plan ring.net new.host.history new_ring.history new.left

-- A controller's station made its visit, or none was due.
abbrev pub VisitedWhere : Bool → ControllerStation → ControllerStation → KeptRing → KeptRing
    → Type 0
VisitedWhere true old new ring new_ring =
    VisitsEnd true true old.controller.fixed ring.net old.worker.node old.controller.history
    new.controller.history ring.history new_ring.history
VisitedWhere false old new ring new_ring = (new ≡ old) × (new_ring ≡ ring)

pub record VisitedController (old new : ControllerStation) (ring new_ring : KeptRing)
    : Type 0 where
  pub stays : StaysStation old new ring new_ring
  pub left : new.left ≡ old.left
  pub visit : VisitedWhere (is_visit_due ring old) old new ring new_ring
  pub keeps : KeepsOn old.controller.fixed ring.net old.worker.node new.controller.history
      new_ring.history new.left
  pub status : status_at ring.net new_ring.history old.worker.node
      ≡ status_at ring.net ring.history old.worker.node
  pub visited : IsVisited new_ring new

-- A controller's station made its away turn: its node asked to come in again, or nothing changed.
pub record CameBack (old new : ControllerStation) (ring new_ring : KeptRing) : Type 0 where
  pub stays : StaysStation old new ring new_ring
  pub history : new.controller.history ≡ old.controller.history
  pub came : new_ring.history ≡ ring.history
      ++ coming_back (status_at ring.net ring.history old.worker.node) (is_off old.controller)
      old.worker.node
  pub left : new.left ≡ node_has_left ring.net new_ring.history old.worker.node
  pub keeps : KeepsOn old.controller.fixed ring.net old.worker.node new.controller.history
      new_ring.history new.left
  pub off : IsOffAway new_ring new

-- A failure of a node's controller is unnoticed, as its own list on the ring tells.
abbrev pub unnoticed_of : ℕ → List RingEntry → ℕ
unnoticed_of failures own_list = if nat_lt (latest_down own_list) failures then 1 else 0

-- A bound of the hold turns that a node has before it: two for each Pass that its budget leaves,
-- one for a failure that is unnoticed, and one for its Leave.
abbrev pub turns_of : NetPlan → List RingEntry → ℕ → ℕ → Bool → ℕ
turns_of net ring node failures left =
    if left then 0
    else (net.holds - count_by is_pass (own node ring)) * 2
    + unnoticed_of failures (own node ring) + 1

-- How often power has failed.
abbrev pub failures_of : ControllerStation → ℕ
failures_of station = (state_of station.controller).failures

-- A bound of the hold turns that the node of a station has before it, on the ring of its network.
abbrev pub turns_in : KeptRing → ℕ → ℕ → Bool → ℕ
turns_in ring node failures left = turns_of ring.net ring.history node failures left

abbrev pub station_turns : List RingStation → ControllerStation → ℕ
station_turns rings station =
    turns_in (ring_on rings station.network) station.node (failures_of station) station.left

abbrev pub host_turns : List RingStation → HostStation → ℕ
host_turns rings station =
    turns_in (ring_on rings station.network) station.node 0 station.left

-- A bound of the hold turns that the two ends of a bridge have before them.
abbrev pub end_turns : List RingStation → BridgeSite → ℕ → ℕ → ℕ
end_turns rings site network side =
    turns_in (ring_on rings network) side 0 (end_has_left side site.station)

abbrev pub site_turns : List RingStation → BridgeSite → ℕ
site_turns rings site =
    end_turns rings site site.plan.left_net site.plan.left
    + end_turns rings site site.plan.right_net site.plan.right

-- A bound of the hold turns that all nodes have before them.
abbrev pub turns_left : Stations → ℕ
turns_left run =
    sum_by (station_turns run.rings.items) run.controllers.items
    + sum_by (host_turns run.rings.items) run.hosts.items
    + sum_by (site_turns run.rings.items) run.bridges.items

-- How many nodes of a network are members of its ring now.
abbrev pub members_of_ring : RingStation → ℕ
members_of_ring station = count_by (λ node. is_in_ring station.ring node) station.members

-- How many nodes of a network are members of its ring; none where it has no ring.
abbrev pub members_if : Option RingStation → ℕ
members_if None = 0
members_if (Some station) = members_of_ring station

abbrev pub members_in : Stations → ℕ → ℕ
members_in run network = members_if (station_on run.rings.items network)

-- A bridge has left: both of its ends have.
abbrev pub site_has_left : BridgeSite → Bool
site_has_left site =
    end_has_left site.plan.left site.station && end_has_left site.plan.right site.station

-- How many stations and bridges have a node that has not left, or asks to come in again.
abbrev pub stations_here : Stations → ℕ
stations_here run =
    count_by (λ (station : ControllerStation). not station.left) run.controllers.items
    + count_by (λ (station : HostStation). not station.left) run.hosts.items
    + count_by (λ (site : BridgeSite). not (site_has_left site)) run.bridges.items

-- A round leaves fewer hold turns to be made, where there is a node to make one.
pub record Lessens (old new : Stations) : Type 0 where
  pub no_more : turns_left new ≤ turns_left old
  pub less : stations_here old ≢ 0 → turns_left new < turns_left old

-- Some member holds the token of a network.
abbrev pub IsHeld : Stations → ℕ → Type 0
IsHeld run network = is_held (ring_of (station_ring run network)) ≡ true

-- The node that holds the token of a network made its hold turn, if there is one: that leaves fewer
-- hold turns to be made, and as many scans; other networks have as many members as before.
pub record HeldOn (network : ℕ) (old new : Stations) : Type 0 where
  pub did : Did (λ plant scans. MakesTurn plant scans (Hold network)) old new
  pub scans : KeepScans old new
  pub no_more : turns_left new ≤ turns_left old
  pub less : IsHeld old network → turns_left new < turns_left old
  pub off : Stay IsOffAway old new
  pub others : (other : ℕ) → other ≢ network → members_in new other ≡ members_in old other

-- A round of one network was made: that leaves fewer hold turns to be made, where its ring has a
-- member.
pub record RoundOn (network : ℕ) (old new : Stations) : Type 0 where
  pub did : Did (λ plant scans. MakesTurns plant scans
      (replicate (members_in old network) (Hold network))) old new
  pub scans : KeepScans old new
  pub no_more : turns_left new ≤ turns_left old
  pub less : members_in old network ≢ 0 → turns_left new < turns_left old
  pub off : Stay IsOffAway old new
  pub others : (other : ℕ) → other ≢ network → members_in new other ≡ members_in old other

-- The ring of the network of the controller's station at a place stands at this place.
abbrev pub IsRingPlace : Stations → ℕ → ℕ → Type 0
IsRingPlace run at place = (station : ControllerStation)
    → slice_get run.controllers.items at ≡ Some station
    → position (λ (ring : RingStation). ring.network == station.network) run.rings.items
    ≡ Some place
