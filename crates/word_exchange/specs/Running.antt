-- What is read of a run from repetition to repetition. All of it is this project's own.
use Rattle.std.specs.Prelude.{◌≡◌, ◌≤◌, Bool, List, drop, length}
use Rattle.std.specs.List.{All, AllZip}
use Rattle.ring_core.specs.declared.entry.RingEntry.{RingEntry}
use Rattle.controller_core.specs.declared.entry.Entry.{Entry}
use Rattle.serial_feed.specs.SerialRuns.{history_of}
use Rattle.serial_feed.specs.SerialRuns.{station_ring}
use Rattle.serial_feed.specs.Standing.{made_by, SerialIs, Turned}
use Rattle.word_exchange.specs.declared.running.WireReader.{WireReader}
use Rattle.word_exchange.specs.Moments.{JointGoesOn}
use Rattle.word_exchange.specs.Refresh.{JointGoesOnBy, Refreshed}

-- What the controller of a wire's from drop has noted, and what its ring has.
abbrev pub entries_now : SerialIs → WireReader → List Entry
entries_now serial reader = history_of reader.plan.now.node serial.run

abbrev pub ring_now : SerialIs → WireReader → List RingEntry
ring_now serial reader = (station_ring serial.run reader.plan.now.network).history

-- What was read of a run is there.
pub record HasReadWithin (serial : SerialIs) (reader : WireReader) : Type 0 where
  pub entries : reader.entries ≤ length (entries_now serial reader)
  pub ring : reader.ring ≤ length (ring_now serial reader)

-- The reader of a wire read on: what its from drop sends went on by what was noted since, and all
-- that was noted is read now.
pub record ReadsOn (serial : SerialIs) (old new : WireReader) : Type 0 where
  pub plan : new.plan ≡ old.plan
  pub sending : Refreshed old.plan.now (drop old.entries (entries_now serial old))
      (drop old.ring (ring_now serial old)) old.sending new.sending
  pub entries : new.entries ≡ length (entries_now serial old)
  pub ring : new.ring ≡ length (ring_now serial old)

-- All that was noted is read.
pub record HasReadAll (serial : SerialIs) (reader : WireReader) : Type 0 where
  pub entries : reader.entries ≡ length (entries_now serial reader)
  pub ring : reader.ring ≡ length (ring_now serial reader)

-- What was not read yet is what came to the lists of a joint history: those of the from drop's
-- controller and of its ring.
pub record ReadsWhatCame (old new : SerialIs) (reader : WireReader) : Type 0 where
  pub has : HasReadWithin new reader
  pub came : JointGoesOnBy reader.plan.now (drop reader.entries (entries_now new reader))
      (drop reader.ring (ring_now new reader)) (made_by old) (made_by new)

-- A reader that has read all reads what came, where the joint history goes on.
abbrev pub ReadersFollow : Type 0
ReadersFollow =
    (old new : SerialIs) (reader : WireReader) → HasReadAll old reader
    → JointGoesOn (made_by old) (made_by new) → ReadsWhatCame old new reader

-- A serial run made one repetition, or nothing where all scans were gone, and the readers of all
-- wires read what came.
pub record RepeatedAndRead (old new : SerialIs) (goes_on : Bool) (readers new_readers
    : List WireReader) : Type 0 where
  pub turned : Turned old new goes_on
  pub came : All (ReadsWhatCame old new) readers
  pub read : AllZip (ReadsOn new) readers new_readers
