-- Which bytes are a journal, which begin one, and which line is the first wrong one. This project's
-- own.
use Rattle.std.specs.Prelude.{◌≡◌, ℕ, ◌+◌, ◌-◌, ◌^◌, min, List, ◌++◌, length, Result, Ok, Err}
use Rattle.std.specs.List.{All, flat_map}
use Rattle.joint_history.specs.declared.joint.Joint.{Joint}
use Rattle.journal_lines.specs.Lines.{IsLine, with_feed}
use Rattle.journal_text.specs.declared.fault.JournalFault.{JournalFault}
use Rattle.journal_text.specs.declared.fault.JournalFault.TheVariants.{Text, NoMemory}
use Rattle.journal_text.specs.Journal.{IsPlain, journal}
use Rattle.journal_text.specs.Sizes.{FitsJoint}

-- The bytes are the journal of this plain joint history.
pub record IsJournalOf (joint : Joint) (bytes : List ℕ) : Type 0 where
  pub plain : IsPlain joint
  pub fits : FitsJoint joint
  pub text : bytes ≡ journal joint

-- The bytes are the journal of some plain joint history; the other word says that some journal
-- begins with them.
abbrev pub IsJournal : List ℕ → Type 0
IsJournal bytes = (joint : Joint) × IsJournalOf joint bytes

abbrev pub IsFront : List ℕ → Type 0
IsFront bytes = (rest : List ℕ) × IsJournal (bytes ++ rest)

-- The first wrong line of bytes, counted from 1: a journal begins with the lines before it, and
-- with them and it begins none. A line that no line feed ends, where the bytes end, is answered
-- for itself.
pub record IsWrongLine (bytes : List ℕ) (number : ℕ) : Type 0 where
  pub lines : List (List ℕ)
  pub rest : List ℕ
  pub each : All IsLine lines
  pub parts : bytes ≡ flat_map with_feed lines ++ rest
  pub count : number ≡ length lines + 1
  pub begins : IsFront (flat_map with_feed lines)
  pub wrong : (line behind : List ℕ) → IsLine line → rest ≡ with_feed line ++ behind
      → IsFront (flat_map with_feed lines ++ with_feed line) → ⊥

-- Why bytes are no journal: by the number of the first wrong line, or the greatest number there is
-- where it is greater.
pub record IsText (bytes : List ℕ) (number : ℕ) : Type 0 where
  pub line : ℕ
  pub first : IsWrongLine bytes line
  pub told : number ≡ min line (2 ^ 32 - 1)
  pub none : IsJournal bytes → ⊥

abbrev pub IsFault : List ℕ → JournalFault → Type 0
IsFault bytes (Text number) = IsText bytes number
IsFault bytes NoMemory = Unit {0}

-- A journal gives its joint history, unless memory runs out.
abbrev pub IsWant : JournalFault → Type 0
IsWant (Text number) = ⊥
IsWant NoMemory = Unit {0}

abbrev pub GivesJoint : Joint → Result Joint JournalFault → Type 0
GivesJoint joint (Ok read) = read ≡ joint
GivesJoint joint (Err fault) = IsWant fault
