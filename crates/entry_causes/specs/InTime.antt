-- Stations in time with their nodes, and the order of a ring with its stations. This project's own.
use Rattle.std.specs.Prelude.{◌≡◌, ◌↔◌, List, ◌∷◌}
use Rattle.std.specs.List.{AllByRecursion as Each}
use Rattle.controller_core.specs.declared.entry.Entry.{Entry}
use Rattle.host_port.specs.declared.entry.HostEntry.{HostEntry}
use Rattle.ring_core.specs.Words.{maker}
use Rattle.ring_core.specs.declared.entry.RingEntry.{RingEntry}
use Rattle.one_order.specs.Merges.{Merged, noted_of, deeds_of, EachFrontIsCaused, InTimeFrom}
use Rattle.one_order.specs.Orders.{Log, HaveNodesApart, HasOneOrder, own_of}
use Rattle.entry_causes.specs.Causes.{StationEntry, Noted, Done, no_notes, no_deeds, note}
use Rattle.entry_causes.specs.Causes.{note_entry}
use Rattle.entry_causes.specs.Causes.{note_host, deed, AreCaused}

-- A controller's list, a host's, or that of either, is in time with what its node did: some merge
-- of the two has each entry after its cause.
abbrev pub InTime : List Entry → List RingEntry → Type 0
InTime list own = InTimeFrom note_entry deed AreCaused no_notes no_deeds list own

abbrev pub HostInTime : List HostEntry → List RingEntry → Type 0
HostInTime list own = InTimeFrom note_host deed AreCaused no_notes no_deeds list own

abbrev pub StationInTime : List StationEntry → List RingEntry → Type 0
StationInTime list own = InTimeFrom note deed AreCaused no_notes no_deeds list own

-- A station's list is in time with its node's entries on the ring.
abbrev pub IsInTime : List RingEntry → Log StationEntry → Type 0
IsInTime ring log = StationInTime log.entries (own_of maker log.node ring)

-- Stations that are each in time have one order with the ring, in which each entry stands after
-- its cause.
abbrev pub StationsHaveOneOrder : Type 0
StationsHaveOneOrder = (ring : List RingEntry) (logs : List (Log StationEntry))
    → HaveNodesApart logs → Each (IsInTime ring) logs
    → HasOneOrder maker note deed AreCaused no_notes no_deeds ring logs

-- A merge of two lists in each of whose fronts nothing came before its cause.
pub record MergesInTime (list : List StationEntry) (own : List RingEntry) : Type 0 where
  pub merge : List (Merged StationEntry RingEntry)
  pub noted : noted_of merge ≡ list
  pub done : deeds_of merge ≡ own
  pub fronts : EachFrontIsCaused note deed AreCaused no_notes no_deeds merge

-- A station is in time where there is one.
abbrev pub InTimeByFronts : Type 0
InTimeByFronts = (list : List StationEntry) (own : List RingEntry)
    → StationInTime list own ↔ MergesInTime list own

-- Where the next entry of either list has its cause it may come first.
abbrev pub InTimeAfter : Noted → Done → List StationEntry → List RingEntry → Type 0
InTimeAfter s d list own = InTimeFrom note deed AreCaused s d list own

pub record NextMayComeFirst : Type 0 where
  pub station : (s : Noted) (d : Done) (e : StationEntry) (list : List StationEntry)
      (own : List RingEntry) → AreCaused (note s e) d
      → InTimeAfter s d (e ∷ list) own ↔ InTimeAfter (note s e) d list own
  pub ring : (s : Noted) (d : Done) (r : RingEntry) (list : List StationEntry)
      (own : List RingEntry) → AreCaused s (deed d r)
      → InTimeAfter s d list (r ∷ own) ↔ InTimeAfter s (deed d r) list own
