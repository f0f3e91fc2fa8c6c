-- What `check` and `replay` say of what `trace` and `live` wrote. This project's own.
use Rattle.std.specs.Prelude.{◌≡◌, ◌⊎◌, ◌++◌, ℕ, List, Ok, codes}
use Rattle.plant_types.specs.declared.plan.Plant.{Plant}
use Rattle.plant_loader.specs.Plant.{plant_of}
use Rattle.plant_tables.specs.declared.tables.Version.TheVariants.{Two}
use Rattle.joint_history.specs.declared.joint.Joint.{Joint}
use Rattle.joint_law.specs.Spots.{IsWholeRun}
use Rattle.journal_text.specs.Fronts.{IsJournalOf}
use Rattle.journal_text.specs.Journal.{journal}
use Rattle.panel_text.specs.Panel.{panel}
use Rattle.command_answers.specs.declared.status.Status.TheVariants as ends
use Rattle.command_words.specs.declared.words.Command.{Command}
use Rattle.command_words.specs.declared.words.Command.TheVariants.{Do}
use Rattle.command_words.specs.declared.words.Task.TheVariants.{Trace, Check, Replay}
use Rattle.command_answers.specs.Cut.{IsCut}
use Rattle.command_answers.specs.Due.{Due, IsDue, IsLiveDue}

-- A status and a text are due for a command and an input, and nothing else is.
pub record IsOnlyDue (command : Command) (input : List ℕ) (what : Due) : Type 0 where
  pub due : IsDue command input what
  pub only : (other : Due) → IsDue command input other → other ≡ what

-- `trace` or `live` writes this for a plant file and so many scans.
abbrev pub IsWrittenFor : ℕ → List ℕ → Due → Type 0
IsWrittenFor scans file what = IsDue (Do Trace scans) file what ⊎ IsLiveDue scans file what

-- A text, with the status Ok.
abbrev pub with_ok : List ℕ → Due
with_ok text = record { status = ends.Ok; text = text }

-- Of this input `check` has but to answer that it is legal, and `replay` this panel.
pub record IsAccepted (scans : ℕ) (shown input : List ℕ) : Type 0 where
  pub check : IsOnlyDue (Do Check scans) input (with_ok (codes "legal\n"))
  pub replay : IsOnlyDue (Do Replay scans) input (with_ok shown)

-- What was written is the journal and the panel of a complete run of the plant, and begins with the
-- journal of no other joint history; each input that is cut into the plant file and that journal is
-- accepted.
pub record TellsOneRun (scans : ℕ) (file : List ℕ) (what : Due) : Type 0 where
  pub plant : Plant
  pub loaded : plant_of Two file ≡ Ok plant
  pub joint : Joint
  pub whole : IsWholeRun plant scans joint
  pub told : IsJournalOf joint (journal joint)
  pub text : what.text ≡ journal joint ++ panel plant joint
  pub alone : (other : Joint) (behind : List ℕ) → IsJournalOf other (journal other)
      → what.text ≡ journal other ++ behind → other ≡ joint
  pub accepted : (input : List ℕ) → IsCut input file (journal joint)
      → IsAccepted scans (panel plant joint) input

-- What `trace` and `live` write with the status Ok tells one run.
abbrev pub WrittenIsLegal : Type 0
WrittenIsLegal = (scans : ℕ) (file : List ℕ) (what : Due) → IsWrittenFor scans file what
    → what.status ≡ ends.Ok → TellsOneRun scans file what
