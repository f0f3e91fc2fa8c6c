-- What a call may have read and written by the status that it ends with: this project's own.
use Rattle.std.specs.Prelude.{◌≡◌, ◌≢◌, ℕ, ◌*◌, ◌^◌, ◌≤◌, ◌<◌, ◌+◌, ◌↔◌, Bool, true, false, List}
use Rattle.std.specs.Prelude.{[], ◌∷◌, codes, length, Option, Some, Result, IsOkAnd, ◌⊎◌}
use Rattle.plant_io.specs.Causes.{Rose}
use Rattle.plant_io.specs.Streams.{GaveFront, IsTooLong, GaveAll, Took, TookFront}
use Rattle.command_answers.specs.declared.status.Status.{Status}
use Rattle.command_answers.specs.declared.status.Status.TheVariants as ends
use Rattle.command_words.specs.Words.{SpellsCommand, SpellsLive}
use Rattle.command_answers.specs.declared.answered.Answer.{Answer}
use Rattle.command_answers.specs.Due.{Due, IsDue, IsLiveDue, as_due, reads_input}
use Rattle.command_answers.specs.Status.{exit_number}

-- The most bytes of input that are taken, 64 MiB.
abbrev pub input_limit : ℕ
input_limit = 64 * 2 ^ 20

-- The words are those of some command.
abbrev pub IsSomeCommand : {C : Type 0} → (List (List ℕ) → C → Type 0) → List (List ℕ) → Type 0
IsSomeCommand {C = C} Spells words = (command : C) × Spells words command

-- The words ask for something with an input.
abbrev pub AsksInput :
    {C : Type 0} → (List (List ℕ) → C → Type 0) → (C → Bool) → List (List ℕ) → Type 0
AsksInput {C = C} Spells reads words =
    (command : C) × Spells words command × (reads command ≡ true)

-- What was read: the whole input, which is within the limit; or nothing, where none is asked.
abbrev pub HasRead : Bool → Option (List ℕ) → Option (List ℕ) → List ℕ → Type 0
HasRead true left rest input = GaveAll left rest input × (length input ≤ input_limit)
HasRead false left rest input = (rest ≡ left) × (input ≡ [])

-- What can be read where nothing fails.
abbrev pub CanRead : Bool → Option (List ℕ) → List ℕ → Type 0
CanRead true left input = (left ≡ Some input) × (length input ≤ input_limit)
CanRead false left input = input ≡ []

-- What was asked: the command that the words spell, and what was read for it.
pub record AskedFor {C : Type 0} (Spells : List (List ℕ) → C → Type 0) (reads : C → Bool)
    (words : List (List ℕ)) (left rest : Option (List ℕ)) : Type 0 where
  pub command : C
  pub spelled : Spells words command
  pub input : List ℕ
  pub read : HasRead (reads command) left rest input

-- A status was due, and the text that was due with it was written.
pub record Wrote (IsDueHere : Due → Type 0) (status : Status) (had has : Option (List ℕ))
    : Type 0 where
  pub what : Due
  pub due : IsDueHere what
  pub ended : what.status ≡ status
  pub took : Took had has what.text

-- A prefix of the text that was due was written, but not all of it.
pub record WroteFront (IsDueHere : Due → Type 0) (had has : Option (List ℕ)) : Type 0 where
  pub what : Due
  pub due : IsDueHere what
  pub took : TookFront had has what.text

-- The status is what was due, and the text that was due was written; or memory ran out.
abbrev pub EndsAsDue : (Due → Type 0) → Status → Option (List ℕ) → Option (List ℕ) → Type 0
EndsAsDue IsDueHere status had has =
    Wrote IsDueHere status had has ⊎ (status ≡ ends.NoMemory)

-- The statuses that come before anything is written.
abbrev pub WritesNothing : Status → Type 0
WritesNothing ends.NoMemory = Unit {0}
WritesNothing ends.Usage = Unit {0}
WritesNothing ends.ReadFault = Unit {0}
WritesNothing ends.TooLong = Unit {0}
WritesNothing ends.Ok = ⊥
WritesNothing ends.Refused = ⊥
WritesNothing ends.Illegal = ⊥
WritesNothing ends.Found = ⊥
WritesNothing ends.WriteFault = ⊥

-- The bytes that a source has left or that a sink has taken, where it tells them, and its count
-- of faults.
pub record Side : Type 0 where
  pub bytes : Option (List ℕ)
  pub faults : ℕ

abbrev pub side : Option (List ℕ) → ℕ → Side
side bytes faults = record { bytes = bytes; faults = faults }

-- A source or a sink before a call and after it.
pub record BeforeAfter : Type 0 where
  pub before : Side
  pub after : Side

-- A value before a call and after it, where functions give its bytes and its count of faults.
abbrev pub before_after : {X : Type 0} → (X → Option (List ℕ)) → (X → ℕ) → X → X → BeforeAfter
before_after bytes faults before after = record {
  before = side (bytes before) (faults before);
  after = side (bytes after) (faults after);
}

-- A read or a write failed between.
abbrev pub Failed : Side → Side → Type 0
Failed before after = Rose before.faults after.faults

-- What answering a command over an input has written, by the status that it ended with.
abbrev pub HasAnswered : (Due → Type 0) → Side → Side → Status → Type 0
HasAnswered IsDueHere had has ends.NoMemory = Unit {0}
HasAnswered IsDueHere had has ends.Usage = ⊥
HasAnswered IsDueHere had has ends.ReadFault = ⊥
HasAnswered IsDueHere had has ends.TooLong = ⊥
HasAnswered IsDueHere had has ends.WriteFault =
    Failed had has × WroteFront IsDueHere had.bytes has.bytes
HasAnswered IsDueHere had has status = Wrote IsDueHere status had.bytes has.bytes

-- What writing an answer has written, where there is one.
abbrev pub HasWrittenDue : {E : Type 0} → Result Answer E → BeforeAfter → Status → Type 0
HasWrittenDue answered sink status =
    HasAnswered (λ what. IsOkAnd answered (λ answer. what ≡ as_due answer)) sink.before sink.after
    status

-- A call keeps its promise by the status that it ends with, for commands that are so spelled, that
-- read an input or none, and for what is due: what it read and wrote was due, each fault has its
-- cause, and where the outside did not fail it ended as was due, or memory ran out.
pub record KeepsPromise
    {C : Type 0} (Spells : List (List ℕ) → C → Type 0) (reads : C → Bool)
    (IsDueFor : C → List ℕ → Due → Type 0)
    (status : Status) (words : List (List ℕ)) (source source_now sink sink_now : Side)
    : Type 0 where
  pub ok : status ≡ ends.Ok → (asked : AskedFor Spells reads words source.bytes source_now.bytes)
      × Wrote (IsDueFor asked.command asked.input) ends.Ok sink.bytes sink_now.bytes
  pub refused : status ≡ ends.Refused
      → (asked : AskedFor Spells reads words source.bytes source_now.bytes)
      × Wrote (IsDueFor asked.command asked.input) ends.Refused sink.bytes sink_now.bytes
  pub illegal : status ≡ ends.Illegal
      → (asked : AskedFor Spells reads words source.bytes source_now.bytes)
      × Wrote (IsDueFor asked.command asked.input) ends.Illegal sink.bytes sink_now.bytes
  pub found : status ≡ ends.Found
      → (asked : AskedFor Spells reads words source.bytes source_now.bytes)
      × Wrote (IsDueFor asked.command asked.input) ends.Found sink.bytes sink_now.bytes
  pub usage : status ≢ ends.NoMemory → (status ≡ ends.Usage) ↔ (¬ IsSomeCommand Spells words)
  pub read_fault : status ≡ ends.ReadFault
      → AsksInput Spells reads words × Failed source source_now
      × GaveFront source.bytes source_now.bytes input_limit
  pub too_long : status ≡ ends.TooLong
      → AsksInput Spells reads words × IsTooLong source.bytes source_now.bytes input_limit
  pub no_memory : status ≡ ends.NoMemory
      → GaveFront source.bytes source_now.bytes (input_limit + 1)
  pub write_fault : status ≡ ends.WriteFault → Failed sink sink_now
      × (asked : AskedFor Spells reads words source.bytes source_now.bytes)
      × WroteFront (IsDueFor asked.command asked.input) sink.bytes sink_now.bytes
  pub later_source : source.faults ≤ source_now.faults
  pub later_sink : sink.faults ≤ sink_now.faults
  pub complete : (command : C) (input : List ℕ) → Spells words command
      → CanRead (reads command) source.bytes input
      → ¬ (Failed source source_now) → ¬ (Failed sink sink_now)
      → EndsAsDue (IsDueFor command input) status sink.bytes sink_now.bytes
  pub long : (input : List ℕ) → AsksInput Spells reads words
      → source.bytes ≡ Some input → input_limit < length input → ¬ (Failed source source_now)
      → (status ≡ ends.TooLong) ⊎ (status ≡ ends.NoMemory)

-- What a call promises for every command but a live run.
abbrev pub Promised : Status → List (List ℕ) → BeforeAfter → BeforeAfter → Type 0
Promised status words source sink =
    KeepsPromise SpellsCommand reads_input IsDue status words source.before source.after
    sink.before sink.after

-- A live run reads its input.
abbrev pub always : ℕ → Bool
always scans = true

-- What a call promises for a live run.
abbrev pub PromisedLive : Status → List (List ℕ) → BeforeAfter → BeforeAfter → Type 0
PromisedLive status words source sink =
    KeepsPromise SpellsLive always IsLiveDue status words source.before source.after
    sink.before sink.after

-- A call does what its first word says: a live run, or any other command.
abbrev pub StartsLive : List (List ℕ) → Type 0
StartsLive [] = ⊥
StartsLive (name ∷ behind) = name ≡ codes "live"

-- The words are those of a command that reads an input.
abbrev pub AsksCommandInput : List (List ℕ) → Type 0
AsksCommandInput words = AsksInput SpellsCommand reads_input words

-- The words ask for no input, so none is read: they are no command, or one that reads nothing.
pub record AsksNothing (words : List (List ℕ)) : Type 0 where
  pub live : StartsLive words → ¬ AsksInput SpellsLive always words
  pub other : ¬ StartsLive words → ¬ AsksCommandInput words

-- What the top call promises: by its first word what is promised for a live run, or for every other
-- command.
pub record PromisedAll (words : List (List ℕ)) (source sink : BeforeAfter) (status : Status)
    : Type 0 where
  pub live : StartsLive words → PromisedLive status words source sink
  pub other : ¬ StartsLive words → Promised status words source sink

-- The process ends with the number of a status of which this holds.
abbrev pub ExitsWith : ℕ → (Status → Type 0) → Type 0
ExitsWith number Holds = (status : Status) × (number ≡ exit_number status) × Holds status
