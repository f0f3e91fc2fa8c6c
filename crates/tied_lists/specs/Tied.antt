-- The five laws between a station's list and the list of its node on the ring. This project's own.
use Rattle.std.specs.Prelude.{◌≡◌, ℕ, ◌<◌, ◌≤◌, Bool, not, List, [], ◌∷◌, ◌++◌, map, filter}
use Rattle.std.specs.Prelude.{filter_map}
use Rattle.std.specs.List.{AllByRecursion, list_any}
use Rattle.ring_core.specs.Words.{is_same_call}
use Rattle.tied_lists.specs.Words.{RingEntry}
use Rattle.tied_lists.specs.Items.{Station, Items, Called, net_ask, asked_by, item_of, plain_items}
use Rattle.tied_lists.specs.Items.{stats_items, taken_by, port_answers, replied_by, due_replies}
use Rattle.tied_lists.specs.Items.{replies_in, ended_by, downs_by, ABridge, Answered, Item}

-- The Requests posted are, in order, those of the station's network calls.
abbrev pub AsksAreCalls : Items → List RingEntry → Type 0
AsksAreCalls a b = asked_by b ≡ filter_map net_ask a.calls

-- The requests that the controller or host answered are, in order, those that were taken for it.
abbrev pub PeersAreTaken : Items → List RingEntry → Type 0
PeersAreTaken a b = map item_of a.answers ≡ plain_items (taken_by b)

-- The requests that the port answered are, in order, the requests for statistics that were taken.
abbrev pub PortIsTaken : List RingEntry → Type 0
PortIsTaken b = map item_of (port_answers b) ≡ stats_items (taken_by b)

-- The Replies posted are, in the order of the Requests taken, their answers.
abbrev pub RepliesAreDue : Items → List RingEntry → Type 0
RepliesAreDue a b =
    replied_by b
    ≡ due_replies (taken_by b) (replies_in a.answers) (replies_in (port_answers b))

-- The calls that ended are, in order, those of the Replies taken, of the calls given up and of the
-- operations at home, each with what that came to.
abbrev pub EndsAreMet : Station → Items → List RingEntry → Type 0
EndsAreMet station a b = a.ends ≡ ended_by station [] b

-- Numbers rise from above this one.
abbrev pub RiseAbove : ℕ → List ℕ → Type 0
RiseAbove number [] = Unit {0}
RiseAbove number (k ∷ ks) = (number < k) × RiseAbove k ks

-- The numbers of the node's Downs rise from 1 on, and none is above the number of its station's
-- power failures. So a host, whose power never fails, has none.
abbrev pub DownsAreFails : Items → List RingEntry → Type 0
DownsAreFails a b =
    RiseAbove 0 (downs_by b) × AllByRecursion (λ (k : ℕ). k ≤ a.fails) (downs_by b)

-- The Requests posted are those of the calls, where these, the last ones made, were not posted yet.
abbrev pub AsksAreCallsBut : List Called → Items → List RingEntry → Type 0
AsksAreCallsBut rest a b = asked_by b ++ filter_map net_ask rest ≡ filter_map net_ask a.calls

-- A station's list and the own list of its node keep all of them.
pub record Tied (station : Station) (a : Items) (b : List RingEntry) : Type 0 where
  pub asks : AsksAreCalls a b
  pub peers : PeersAreTaken a b
  pub port : PortIsTaken b
  pub replies : RepliesAreDue a b
  pub ends : EndsAreMet station a b
  pub downs : DownsAreFails a b

-- Two lists keep all these ties, but for calls that were not posted yet.
pub record TiedBut (station : Station) (rest : List Called) (a : Items) (b : List RingEntry)
    : Type 0 where
  pub asks : AsksAreCallsBut rest a b
  pub peers : PeersAreTaken a b
  pub port : PortIsTaken b
  pub replies : RepliesAreDue a b
  pub ends : EndsAreMet station a b
  pub downs : DownsAreFails a b

-- ---- The end of a bridge, which gives replies back as they come, and never loses its power.

-- A Reply is to a request that the port answered.
abbrev pub is_port_reply : List Answered → Item → Bool
is_port_reply answers item = list_any (λ (a : Answered). is_same_call a.id item.0) answers

-- The Replies posted that are the port's are, in order, its answers; the others are, in order, what
-- the bridge gave back.
pub record RepliesAreBacks (backs : List Item) (b : List RingEntry) : Type 0 where
  pub given : filter (λ (item : Item). not (is_port_reply (port_answers b) item)) (replied_by b)
      ≡ backs
  pub told : filter (is_port_reply (port_answers b)) (replied_by b)
      ≡ map (λ (a : Answered). (a.id, a.reply)) (port_answers b)

-- The entries of a bridge with one of its ends, by their items and by what they gave back, and the
-- own list of that end's node keep all of the laws.
pub record TiedEnd (a : Items) (backs : List Item) (b : List RingEntry) : Type 0 where
  pub asks : AsksAreCalls a b
  pub peers : PeersAreTaken a b
  pub port : PortIsTaken b
  pub replies : RepliesAreBacks backs b
  pub ends : EndsAreMet ABridge a b
  pub downs : downs_by b ≡ []
