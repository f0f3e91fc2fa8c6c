-- Requests that are taken, and what is due to them. This project's own.
use Rattle.std.specs.Prelude.{◌≡◌, ℕ, Bool, true, false, List, [], ◌∷◌, ◌++◌, Option}
use Rattle.std.specs.List.{cons_option}
use Rattle.ring_core.specs.declared.frame.Frame.{Frame}
use Rattle.ring_core.specs.declared.entry.RingEntry.{RingEntry}
use Rattle.tied_lists.specs.Items.{ForStats, Item, Plain, RequestItem, Taken, due_replies}
use Rattle.tied_lists.specs.Items.{plain_items, port_answers, replies_in, rest_of}
use Rattle.tied_lists.specs.Items.{stats_items, taken_by, taken_in, taken_of}
use Rattle.station_laws.specs.Picked.{picked}

-- The request of a frame that was taken, if it is one.
abbrev pub frame_taken : Frame → List Taken
frame_taken f = cons_option (taken_in f.kind f) []

-- The request that an entry takes, if it takes one.
abbrev pub entry_taken : RingEntry → List Taken
entry_taken e = cons_option (taken_of e) []

-- The requests that were taken for the port, or those for the station.
abbrev pub items_for : Bool → List Taken → List RequestItem
items_for true taken = stats_items taken
items_for false taken = plain_items taken

-- What is left of the answers of a station after those to some requests.
abbrev pub left_plain : List Taken → List (Option (List ℕ)) → List (Option (List ℕ))
left_plain [] peers = peers
left_plain (Plain id rest pdu ∷ ts) peers = left_plain ts (rest_of peers)
left_plain (ForStats id pdu ∷ ts) peers = left_plain ts peers

-- What is left of the answers of a port after those to some requests.
abbrev pub left_stats : List Taken → List (Option (List ℕ)) → List (Option (List ℕ))
left_stats [] locals = locals
left_stats (Plain id rest pdu ∷ ts) locals = left_stats ts locals
left_stats (ForStats id pdu ∷ ts) locals = left_stats ts (rest_of locals)

-- What is due to some more of them was added, and their answers were used.
pub record DueNext (taken : List Taken) (list : List Item) (peers locals : List (Option (List ℕ)))
    (list' : List Item) (peers' locals' : List (Option (List ℕ))) : Type 0 where
  pub list_is : list' ≡ list ++ due_replies taken peers locals
  pub peers_are : peers' ≡ left_plain taken peers
  pub locals_are : locals' ≡ left_stats taken locals

-- The Replies that are due for what a node took at these places, by the answers of its station and
-- of its port.
abbrev pub due_at : List RingEntry → List ℕ → List (Option (List ℕ)) → List (Option (List ℕ))
    → List Item
due_at ring places peers locals = due_replies (taken_by (picked ring places)) peers locals

-- The Replies that are due after a node's entries, whose station gave such replies.
abbrev pub due_behind : List (Option (List ℕ)) → List RingEntry → List Item
due_behind peers b = due_replies (taken_by b) peers (replies_in (port_answers b))
