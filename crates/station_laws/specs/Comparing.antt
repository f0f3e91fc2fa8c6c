-- What comes of comparing the two lists of a law. This project's own.
use Rattle.std.specs.Prelude.{◌≡◌, ◌++◌, ℕ, ◌+◌, List, Option, Some, None}
use Rattle.ring_core.specs.declared.entry.RingEntry.{RingEntry}
use Rattle.tied_lists.specs.Items.{Item, Items, Station, replied_by}
use Rattle.station_laws.specs.Bound.{Bound, BreaksLaw, KeepsLaw, Sorted, given_in_order, port_items}
use Rattle.station_laws.specs.Bound.{replied_in_order, taken_in_order}
use Rattle.station_laws.specs.Differing.{DifferAt}
use Rattle.station_laws.specs.Taking.{due_behind}
use Rattle.station_laws.specs.declared.law.Law.{Law}

-- Two lists are one, or differ first at a place counted from 0.
abbrev pub Compared : {A : Type 0} → List A → List A → Option ℕ → Type 0
Compared xs ys None = xs ≡ ys
Compared xs ys (Some place) = DifferAt xs ys (place + 1)

-- What a station and then its port answered, compared with what was taken for each.
abbrev pub ComparesAnswers : List Sorted → List RingEntry → Option ℕ → Type 0
ComparesAnswers answers b = Compared (answers ++ port_items b) (taken_in_order b)

-- The Replies that a node posted, compared with those that were due, whose station gave such
-- replies.
abbrev pub ComparesReplies : List (Option (List ℕ)) → List RingEntry → Option ℕ → Type 0
ComparesReplies peers b = Compared (replied_by b) (due_behind peers b)

-- The Replies that the node of an end of a bridge posted, compared with what the bridge gave back
-- and with what the port told.
abbrev pub ComparesBacks : List Item → List RingEntry → Option ℕ → Type 0
ComparesBacks backs b = Compared (replied_in_order b) (given_in_order backs b)

-- A station, whatever its address.
abbrev pub any_bound : Station → Items → List Item → List RingEntry → Bound
any_bound station items backs ring =
    record { node = 0; station = station; items = items; backs = backs; ring = ring }

-- A station keeps a law, or breaks it first at a place counted from 0.
abbrev pub IsLawEnd : Law → Station → Items → List Item → List RingEntry → Option ℕ → Type 0
IsLawEnd law station items backs ring None = KeepsLaw law (any_bound station items backs ring)
IsLawEnd law station items backs ring (Some place) =
    BreaksLaw law (any_bound station items backs ring) (place + 1)
