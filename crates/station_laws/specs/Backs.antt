-- What the third law compares at an end of a bridge, found entry by entry. This project's own.
use Rattle.std.specs.Prelude.{◌≡◌, Bool, true, false, is_some, List, [], map}
use Rattle.std.specs.Prelude.{filter, Option, Some, None, ℕ}
use Rattle.std.specs.List.{cons_option, list_any}
use Rattle.mstr_block.specs.Call.{is_same_call}
use Rattle.mstr_block.specs.declared.call.CallId.{CallId}
use Rattle.bridge_relay.specs.declared.entry.BridgeEntry.{BridgeEntry}
use Rattle.ring_core.specs.declared.entry.RingEntry.{RingEntry}
use Rattle.tied_lists.specs.Items.{Answered, Item, answered_of, or_some}
use Rattle.tied_lists.specs.Items.{replied_of}
use Rattle.station_laws.specs.Bound.{SortedReply, is_of_sort, sorted}
use Rattle.station_laws.specs.Named.{value_of_call}
use Rattle.station_laws.specs.Readings.{side_back_in}
use Rattle.station_laws.specs.declared.by_call.ByCall.{ByCall}

-- A name is one of those that were answered.
abbrev pub is_answered : List Answered → CallId → Bool
is_answered answers q = list_any (λ (a : Answered). is_same_call a.id q) answers

abbrev pub marked_if : Bool → Option Bool
marked_if true = Some true
marked_if false = None

-- A table marks the names of the requests that were answered, and no others.
abbrev pub HasNames : List Answered → ByCall Bool → Type 0
HasNames answers names = (q : CallId) → value_of_call names q ≡ marked_if (is_answered answers q)

-- A table of names goes on by one name more, if there is one.
abbrev pub NotesName : ByCall Bool → Option Answered → ByCall Bool → Type 0
NotesName old answer new = (q : CallId)
    → value_of_call new q
    ≡ or_some (marked_if (is_answered (cons_option answer []) q)) (value_of_call old q)

-- A Reply is to one of these names, or to another.
abbrev pub is_to : ByCall Bool → Bool → Item → Bool
is_to names statistics item = is_of_sort statistics (is_some (value_of_call names item.0))

-- The Replies among some that are to one of these names, or those that are to others.
abbrev pub replies_to : ByCall Bool → Bool → List Item → List SortedReply
replies_to names statistics items =
    map (sorted statistics) (filter (is_to names statistics) items)

-- The Reply of an entry, if it is one of these.
abbrev pub sorted_reply_in : ByCall Bool → Bool → RingEntry → List SortedReply
sorted_reply_in names statistics e =
    replies_to names statistics (cons_option (replied_of e) [])

-- The reply that an entry gives back, if it gives one.
abbrev pub side_back_sorted : ℕ → BridgeEntry → List SortedReply
side_back_sorted side e = map (sorted false) (cons_option (side_back_in side e) [])

-- The reply that tells what an entry of the port answered.
abbrev pub reply_told : Answered → Item
reply_told a = (a.id, a.reply)

abbrev pub port_reply_sorted : RingEntry → List SortedReply
port_reply_sorted e = map (sorted true) (map reply_told (cons_option (answered_of e) []))
