-- What was answered over what was read keeps the promise.
use Rattle.std.proofs.Common.{◌≡◌, ℕ, ◌+◌, ◌<◌, ◌≤◌, ◌↔◌, Bool, true, false, List, [], ◌∷◌, length}
use Rattle.std.proofs.Common.{Option, Some, None, Result, Ok, Err, IfOk, IsOkAnd}
use Rattle.std.proofs.Common.{ap, sym, refl, ◌∙◌, ◌++◌, subst, inl, inr, arith, append-nil}
use Rattle.plant_io.specs.Streams.{GaveFront, GaveAll}
use Rattle.command_answers.specs.declared.status.Status.{Status}
use Rattle.command_answers.specs.declared.status.Status.TheVariants as ends
use Rattle.command_words.specs.declared.words.Command.{Command}
use Rattle.command_words.specs.Words.{IsCommandInRange, IsNumberOfScans, SpellsCommand, SpellsLive}
use Rattle.command_answers.specs.declared.answered.Answer.{Answer}
use Rattle.command_answers.specs.Due.{Due, as_due}
use Rattle.command_answers.specs.Status.{goes_with_text}
use Rattle.plant984.specs.Promise.{HasAnswered, AskedFor, CanRead, EndsAsDue, Failed, HasRead}
use Rattle.plant984.specs.Promise.{KeepsPromise, Side, Wrote, input_limit}

-- What a call has found out before it writes: what was asked, and what was read for it.
pub record Found {C : Type 0} (Spells : List (List ℕ) → C → Type 0) (reads : C → Bool)
    (words : List (List ℕ))
    (source source_now : Side) (command : C) (input : List ℕ) : Type 0 where
  pub spelled : Spells words command
  pub only : (other : C) → Spells words other → other ≡ command
  pub read : HasRead (reads command) source.bytes source_now.bytes input
  pub later : source.faults ≤ source_now.faults

-- the words spell one command alone
pub one-command : {C : Type 0} (Spells : List (List ℕ) → C → Type 0) (words : List (List ℕ))
    (asked : Option C) (command : C)
    → ((other : C) → (asked ≡ Some other) ↔ Spells words other)
    → asked ≡ Some command → (other : C) → Spells words other → other ≡ command
one-command Spells words asked command reads is other spells =
    let that : asked ≡ Some other = (reads other).1 spells in
    cc

-- a command that is spelled is in its range
pub in_range : (words : List (List ℕ)) (command : Command) → SpellsCommand words command
    → IsCommandInRange command
in_range [] command spells = absurd spells
in_range (name ∷ behind) command spells = spells.in_range

-- nothing was read where nothing is asked, and else the whole input
pub nothing_read : (reads : Bool) (left : Option (List ℕ)) → reads ≡ false
    → HasRead reads left left []
nothing_read true left is = absurd (cc)
nothing_read false left is = (refl, refl)

pub whole_read : (reads : Bool) (left rest : Option (List ℕ)) (input : List ℕ) → reads ≡ true
    → GaveAll left rest input
    → length input ≤ input_limit → HasRead reads left rest input
whole_read true left rest input is whole within = (whole, within)
whole_read false left rest input is whole within = absurd (cc)

-- what can be read is what was read
same-input : (reads : Bool) (left rest : Option (List ℕ)) (given input : List ℕ)
    → CanRead reads left given → HasRead reads left rest input → given ≡ input
same-input false left rest given input can read = can ∙ sym read.1
same-input true left rest given input can read =
    let P : Option (List ℕ) → Type 0 = λ l. GaveAll l rest input in
    (subst P can.0 read.0).0

-- an input that was read whole is not too long
not-long : (reads : Bool) (left rest : Option (List ℕ)) (given input : List ℕ) → reads ≡ true
    → left ≡ Some given
    → input_limit < length given → HasRead reads left rest input → ⊥
not-long false left rest given input is gives long read = absurd (cc)
not-long true left rest given input is gives long read =
    let P : Option (List ℕ) → Type 0 = λ l. GaveAll l rest input in
    let same : given ≡ input = (subst P gives read.0).0 in
    absurd (omega (arith, long, read.1, ap length same))

-- what was read is a front of what was there
nothing-gone : (left rest : Option (List ℕ)) → rest ≡ left → GaveFront left rest (input_limit + 1)
nothing-gone None rest same = ([], omega arith, same)
nothing-gone (Some bytes) rest same = ([], omega arith, (bytes, same, refl))

front-read : (reads : Bool) (left rest : Option (List ℕ)) (input : List ℕ)
    → HasRead reads left rest input
    → GaveFront left rest (input_limit + 1)
front-read false left rest input read = nothing-gone left rest read.0
front-read true None rest input read = (input, omega (arith, read.1), read.0)
front-read true (Some bytes) rest input read =
    let whole : bytes ≡ input ++ [] = read.0.0 ∙ sym (append-nil input) in
    (input, omega (arith, read.1), ([], read.0.1, whole))

abbrev asked-found : {C : Type 0} {Spells : List (List ℕ) → C → Type 0} {reads : C → Bool}
    {words : List (List ℕ)}
    {source source_now : Side} {command : C} {input : List ℕ}
    → Found Spells reads words source source_now command input
    → AskedFor Spells reads words source.bytes source_now.bytes
asked-found {command = command} {input = input} found =
    record { command = command; spelled = found.spelled; input = input; read = found.read }

-- an answer that was written whole was written with its own status
pub wrote-whole : (IsDueHere : Due → Type 0) (status : Status) (had has : Side)
    → goes_with_text status ≡ true → Wrote IsDueHere status had.bytes has.bytes
    → HasAnswered IsDueHere had has status
wrote-whole IsDueHere ends.Ok had has text wrote = wrote
wrote-whole IsDueHere ends.Refused had has text wrote = wrote
wrote-whole IsDueHere ends.Illegal had has text wrote = wrote
wrote-whole IsDueHere ends.Found had has text wrote = wrote
wrote-whole IsDueHere ends.NoMemory had has text wrote = absurd (cc)
wrote-whole IsDueHere ends.Usage had has text wrote = absurd (cc)
wrote-whole IsDueHere ends.ReadFault had has text wrote = absurd (cc)
wrote-whole IsDueHere ends.TooLong had has text wrote = absurd (cc)
wrote-whole IsDueHere ends.WriteFault had has text wrote = absurd (cc)

-- an answer is what it tells
pub told-self : {E : Type 0} (answered : Result Answer E) (answer : Answer) → answered ≡ Ok answer
    → IsOkAnd answered (λ other. as_due answer ≡ as_due other)
told-self {E = E} answered answer is =
    let P : Result Answer E → Type 0 = λ r. IsOkAnd r (λ other. as_due answer ≡ as_due other) in
    subst P (sym is) refl

-- what was written of one thing that is due was written of any that is due
wrote-more : (IsOne IsAny : Due → Type 0) → ((what : Due) → IsOne what → IsAny what)
    → (status : Status) (had has : Option (List ℕ)) → Wrote IsOne status had has
    → Wrote IsAny status had has
wrote-more IsOne IsAny more status had has wrote =
    record {
      what = wrote.what;
      due = more wrote.what wrote.due;
      ended = wrote.ended;
      took = wrote.took;
    }

-- so is what answering has written
answered-more : (IsOne IsAny : Due → Type 0) → ((what : Due) → IsOne what → IsAny what)
    → (had has : Side) (status : Status) → HasAnswered IsOne had has status
    → HasAnswered IsAny had has status
answered-more IsOne IsAny more had has ends.Ok answers =
    wrote-more IsOne IsAny more ends.Ok had.bytes has.bytes answers
answered-more IsOne IsAny more had has ends.Refused answers =
    wrote-more IsOne IsAny more ends.Refused had.bytes has.bytes answers
answered-more IsOne IsAny more had has ends.Illegal answers =
    wrote-more IsOne IsAny more ends.Illegal had.bytes has.bytes answers
answered-more IsOne IsAny more had has ends.Found answers =
    wrote-more IsOne IsAny more ends.Found had.bytes has.bytes answers
answered-more IsOne IsAny more had has ends.NoMemory answers = answers
answered-more IsOne IsAny more had has ends.Usage answers = answers
answered-more IsOne IsAny more had has ends.ReadFault answers = answers
answered-more IsOne IsAny more had has ends.TooLong answers = answers
answered-more IsOne IsAny more had has ends.WriteFault answers =
    let front = answers.1 in (
      answers.0,
      record {
        what = front.what;
        due = more front.what front.due;
        took = front.took;
      },
    )

-- what an answer tells is due where the answer is
told-due : {E : Type 0} (IsDueHere : Due → Type 0) (answered : Result Answer E)
    → IfOk answered (λ answer. IsDueHere (as_due answer))
    → (what : Due) → IsOkAnd answered (λ answer. what ≡ as_due answer) → IsDueHere what
told-due IsDueHere (Ok answer) due what is = subst IsDueHere (sym is) due
told-due IsDueHere (Err error) due what is = absurd is

-- so where an answer is due, what was written of it was written of what is due
pub answered-due : {E : Type 0} (IsDueHere : Due → Type 0) (answered : Result Answer E)
    → IfOk answered (λ answer. IsDueHere (as_due answer)) → (had has : Side) (status : Status)
    → HasAnswered (λ what. IsOkAnd answered (λ answer. what ≡ as_due answer)) had has status
    → HasAnswered IsDueHere had has status
answered-due IsDueHere answered due had has status answers =
    answered-more (λ what. IsOkAnd answered (λ answer. what ≡ as_due answer)) IsDueHere
    (told-due IsDueHere answered due) had has status answers

-- what was written is what was due
wrote-ends : (IsDueHere : Due → Type 0) (status : Status) (had has : Side)
    → HasAnswered IsDueHere had has status
    → ¬ (Failed had has) → EndsAsDue IsDueHere status had.bytes has.bytes
wrote-ends IsDueHere ends.Ok had has answers no_write = inl answers
wrote-ends IsDueHere ends.Refused had has answers no_write = inl answers
wrote-ends IsDueHere ends.Illegal had has answers no_write = inl answers
wrote-ends IsDueHere ends.Found had has answers no_write = inl answers
wrote-ends IsDueHere ends.NoMemory had has answers no_write = inr refl
wrote-ends IsDueHere ends.Usage had has answers no_write = absurd answers
wrote-ends IsDueHere ends.ReadFault had has answers no_write = absurd answers
wrote-ends IsDueHere ends.TooLong had has answers no_write = absurd answers
wrote-ends IsDueHere ends.WriteFault had has answers no_write = absurd (no_write answers.0)

-- so the promise is kept
pub Keeps-found : {C : Type 0} (Spells : List (List ℕ) → C → Type 0) (reads : C → Bool)
    (IsDueFor : C → List ℕ → Due → Type 0)
    (words : List (List ℕ)) (source source_now : Side) (command : C) (input : List ℕ)
    → Found Spells reads words source source_now command input
    → (had has : Side) (status : Status) → had.faults ≤ has.faults
    → HasAnswered (IsDueFor command input) had has status
    → KeepsPromise Spells reads IsDueFor status words source source_now had has
Keeps-found {C = C} Spells reads IsDueFor words source source_now command input found had has status
    later answers =
    let P : Status → Type 0 = λ s. HasAnswered (IsDueFor command input) had has s in
    record {
      ok = λ is. (asked-found found, subst P is answers);
      refused = λ is. (asked-found found, subst P is answers);
      illegal = λ is. (asked-found found, subst P is answers);
      found = λ is. (asked-found found, subst P is answers);
      usage = λ memory.
          (λ is. absurd (subst P is answers), λ none. absurd (none (command, found.spelled)));
      read_fault = λ is. absurd (subst P is answers);
      too_long = λ is. absurd (subst P is answers);
      no_memory = λ is. front-read (reads command) source.bytes source_now.bytes input found.read;
      write_fault = λ is.
          let wrote : P ends.WriteFault = subst P is answers in
          (wrote.0, asked-found found, wrote.1);
      later_source = found.later;
      later_sink = later;
      complete = λ other given spells can no_read no_write.
          let command_is : other ≡ command = found.only other spells in
          let Can : C → Type 0 = λ c. CanRead (reads c) source.bytes given in
          let given_is : given ≡ input =
          same-input (reads command) source.bytes source_now.bytes given input
          (subst Can command_is can) found.read in
          let Ends : C → Type 0 = λ c. EndsAsDue (IsDueFor c given) status had.bytes has.bytes in
          let EndsOver : List ℕ → Type 0 =
          λ bytes. EndsAsDue (IsDueFor command bytes) status had.bytes has.bytes in
          subst Ends (sym command_is) (subst EndsOver (sym given_is)
          (wrote-ends (IsDueFor command input) status had has answers no_write));
      long = λ given asks left long no_read.
          let command_is : asks.0 ≡ command = found.only asks.0 asks.1 in
          let reads_is : reads command ≡ true = ap reads (sym command_is) ∙ asks.2 in
          absurd (not-long (reads command) source.bytes source_now.bytes given input reads_is left
          long found.read);
    }

-- a live run that is spelled is in its range
pub live_in_range : (words : List (List ℕ)) (scans : ℕ) → SpellsLive words scans
    → IsNumberOfScans scans
live_in_range [] scans spells = absurd spells
live_in_range (name ∷ behind) scans spells = spells.in_range
