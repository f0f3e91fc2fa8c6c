-- The five laws of a station and of an end of a bridge, by what each compares. This project's own.
use Rattle.std.specs.Prelude.{ℕ, Bool, true, false, not, List, [], ◌∷◌, ◌++◌, map, filter}
use Rattle.std.specs.Prelude.{flat_map, filter_map, Option}
use Rattle.std.specs.List.{cons_option}
use Rattle.ring_core.specs.declared.entry.RingEntry.{RingEntry}
use Rattle.tied_lists.specs.Own.{own}
use Rattle.tied_lists.specs.Items.{ABridge, AController, AHost, Answered, Item, Items, RequestItem}
use Rattle.tied_lists.specs.Items.{Station}
use Rattle.tied_lists.specs.Items.{asked_by, downs_by}
use Rattle.tied_lists.specs.Items.{Taken, ended_by, item_of, net_ask, plain_items}
use Rattle.tied_lists.specs.Items.{port_answers, replied_by, replies_in, stats_items, taken_by}
use Rattle.tied_lists.specs.Tied.{AsksAreCalls, PeersAreTaken, PortIsTaken, RepliesAreDue}
use Rattle.tied_lists.specs.Tied.{EndsAreMet, DownsAreFails, RepliesAreBacks, is_port_reply}
use Rattle.joint_history.specs.Bridges.{backs_of, side_items}
use Rattle.joint_history.specs.declared.joint.BridgeLog.{BridgeLog}
use Rattle.joint_history.specs.declared.joint.ControllerLog.{ControllerLog}
use Rattle.joint_history.specs.declared.joint.HostLog.{HostLog}
use Rattle.joint_history.specs.declared.joint.Joint.{Joint}
use Rattle.joint_history.specs.Reading.{items_of, host_items_of}
use Rattle.station_laws.specs.Differing.{BreaksAt, DifferAt}
use Rattle.station_laws.specs.Failing.{AreFounded}
use Rattle.station_laws.specs.Picked.{picked}
use Rattle.station_laws.specs.Taking.{due_behind, items_for}
use Rattle.station_laws.specs.declared.law.Law.{Law}
use Rattle.station_laws.specs.declared.law.Law.TheVariants.{Asks, Answers, Replies, Ends, Downs}
use Rattle.joint_history.specs.Nets.{noted_on_rings}

-- A station or an end of a bridge with what the laws read: the items of its list, what it gave back
-- if it is such an end, and its node's entries on the ring.
pub record Bound : Type 0 where
  pub node : ℕ
  pub station : Station
  pub items : Items
  pub backs : List Item
  pub ring : List RingEntry

-- A controller, by its list.
abbrev pub controller_bound : List RingEntry → ControllerLog → Bound
controller_bound ring log = record {
  node = log.node;
  station = AController;
  items = items_of log.entries;
  backs = [];
  ring = own log.node ring;
}

-- A host, by its list.
abbrev pub host_bound : List RingEntry → HostLog → Bound
host_bound ring log = record {
  node = log.node;
  station = AHost;
  items = host_items_of log.entries;
  backs = [];
  ring = own log.node ring;
}

-- An end of a bridge, by the bridge's list.
abbrev pub side_bound : List RingEntry → BridgeLog → ℕ → Bound
side_bound ring log side = record {
  node = side;
  station = ABridge;
  items = side_items side log.entries;
  backs = backs_of side log.entries;
  ring = own side ring;
}

-- A bridge's two ends, each by the bridge's list.
abbrev pub side_bounds : List RingEntry → BridgeLog → List Bound
side_bounds ring log = side_bound ring log log.left ∷ side_bound ring log log.right ∷ []

-- All stations of a joint history, and all ends of its bridges.
abbrev pub bounds_of : Joint → List Bound
bounds_of joint =
    map (controller_bound (noted_on_rings joint)) joint.controllers
    ++ map (host_bound (noted_on_rings joint)) joint.hosts
    ++ flat_map (side_bounds (noted_on_rings joint)) joint.bridges

-- The laws are counted from 1.
abbrev pub number_of : Law → ℕ
number_of Asks = 1
number_of Answers = 2
number_of Replies = 3
number_of Ends = 4
number_of Downs = 5

-- An item, and whether it is one of statistics.
pub record SortedOf (A : Type 0) : Type 0 where
  pub statistics : Bool
  pub item : A

abbrev pub sorted : {A : Type 0} → Bool → A → SortedOf A
sorted statistics item = record { statistics = statistics; item = item }

-- A request that was answered, and a Reply.
abbrev pub Sorted : Type 0
Sorted = SortedOf RequestItem

abbrev pub SortedReply : Type 0
SortedReply = SortedOf Item

-- The item of an answer.
abbrev pub sorted_answer : Bool → Answered → Sorted
sorted_answer statistics a = sorted statistics (item_of a)

-- The item of an answer, if there is one.
abbrev pub sorted_answers : Bool → Option Answered → List Sorted
sorted_answers statistics answer = map (sorted_answer statistics) (cons_option answer [])

-- The items of what a port answered.
abbrev pub port_items : List RingEntry → List Sorted
port_items ring = map (sorted_answer true) (port_answers ring)

-- What was answered by a station, and then by its port.
abbrev pub answered_in_order : List Answered → List RingEntry → List Sorted
answered_in_order answers ring = map (sorted_answer false) answers ++ port_items ring

-- The items of what was taken for a port, or for its station.
abbrev pub sorted_taken : Bool → List Taken → List Sorted
sorted_taken statistics taken = map (sorted statistics) (items_for statistics taken)

-- The items of what a node took at these places for a port, or for its station.
abbrev pub taken_places : Bool → List RingEntry → List ℕ → List Sorted
taken_places statistics ring places = sorted_taken statistics (taken_by (picked ring places))

-- What was taken for a station, and then for its port.
abbrev pub taken_in_order : List RingEntry → List Sorted
taken_in_order ring =
    map (sorted false) (plain_items (taken_by ring))
    ++ map (sorted true) (stats_items (taken_by ring))

-- One of a sort, where this is so, or of the other.
abbrev pub is_of_sort : Bool → Bool → Bool
is_of_sort true is = is
is_of_sort false is = not is

-- The Replies that a node posted to what its port answered, or those to others.
abbrev pub replied_to : Bool → List RingEntry → List Item
replied_to statistics ring =
    filter (λ (item : Item). is_of_sort statistics (is_port_reply (port_answers ring) item))
    (replied_by ring)

-- What was posted of what a bridge gave back, and then of what the port told.
abbrev pub replied_in_order : List RingEntry → List SortedReply
replied_in_order ring =
    map (sorted false) (replied_to false ring)
    ++ map (sorted true) (replied_to true ring)

-- The Replies that tell what a port answered.
abbrev pub port_replies : List RingEntry → List Item
port_replies ring = map (λ (a : Answered). (a.id, a.reply)) (port_answers ring)

-- What an end of a bridge gave back, and then what its port answered.
abbrev pub given_in_order : List Item → List RingEntry → List SortedReply
given_in_order backs ring =
    map (sorted false) backs ++ map (sorted true) (port_replies ring)

-- The third law, by what a station is.
abbrev pub KeepsReplies : Station → Items → List Item → List RingEntry → Type 0
KeepsReplies AController items backs ring = RepliesAreDue items ring
KeepsReplies AHost items backs ring = RepliesAreDue items ring
KeepsReplies ABridge items backs ring = RepliesAreBacks backs ring

-- A station keeps a law.
abbrev pub KeepsLaw : Law → Bound → Type 0
KeepsLaw Asks s = AsksAreCalls s.items s.ring
KeepsLaw Answers s = PeersAreTaken s.items s.ring × PortIsTaken s.ring
KeepsLaw Replies s = KeepsReplies s.station s.items s.backs s.ring
KeepsLaw Ends s = EndsAreMet s.station s.items s.ring
KeepsLaw Downs s = DownsAreFails s.items s.ring

-- Where the third law is broken, by what a station is.
abbrev pub BreaksReplies : Station → Items → List Item → List RingEntry → ℕ → Type 0
BreaksReplies AController items backs ring place =
    DifferAt (replied_by ring) (due_behind (replies_in items.answers) ring) place
BreaksReplies AHost items backs ring place =
    DifferAt (replied_by ring) (due_behind (replies_in items.answers) ring) place
BreaksReplies ABridge items backs ring place =
    DifferAt (replied_in_order ring) (given_in_order backs ring) place

-- A station breaks a law at a place: the first at which the two lists of the law differ, or the
-- first of the node's Downs that no power failure founds.
abbrev pub BreaksLaw : Law → Bound → ℕ → Type 0
BreaksLaw Asks s place = DifferAt (asked_by s.ring) (filter_map net_ask s.items.calls) place
BreaksLaw Answers s place =
    DifferAt (answered_in_order s.items.answers s.ring) (taken_in_order s.ring) place
BreaksLaw Replies s place = BreaksReplies s.station s.items s.backs s.ring place
BreaksLaw Ends s place = DifferAt s.items.ends (ended_by s.station [] s.ring) place
BreaksLaw Downs s place = BreaksAt (AreFounded s.items.fails) (downs_by s.ring) place
