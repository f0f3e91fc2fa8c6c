-- The words of the command line, as bytes. This project's own.
use Rattle.std.specs.Prelude.{◌≡◌, ◌↔◌, ℕ, if◌then◌else◌, List, [], ◌∷◌, Option, Some, bytes_eq}
use Rattle.std.specs.Prelude.{codes, map, option_to_list}
use Rattle.std.specs.Fmt.{decimal}
use Rattle.plant_types.specs.Limits.{most_scans}
use Rattle.plant_types.specs.Plans.{IsFromTo, IsNode}
use Rattle.plant_gen.specs.Text.{IsPlantNumber}
use Rattle.command_words.specs.declared.words.Command.{Command}
use Rattle.command_words.specs.declared.words.Command.TheVariants.{Cop, Do, Flow, Gen}
use Rattle.command_words.specs.declared.words.Command.TheVariants.{Never, Same, Session, Standby}
use Rattle.command_words.specs.declared.words.Question.{Question}
use Rattle.command_words.specs.declared.words.Task.{Task}
use Rattle.command_words.specs.declared.words.Task.TheVariants.{Run, Trace, Check, Replay}
use Rattle.command_words.specs.Nevers.{AreAsked, IsDepth}

-- What was read is a value of this kind exactly where it is some value.
abbrev pub ReadsJust : {X : Type 0} → (X → Type 0) → Option X → Type 0
ReadsJust {X = X} IsOne read = (value : X) → (read ≡ Some value) ↔ IsOne value

-- The words without the first that is exactly `--`, wherever it stands.
abbrev pub without_dashes : List (List ℕ) → List (List ℕ)
without_dashes [] = []
without_dashes (word ∷ words) =
    if bytes_eq word (codes "--") then words else word ∷ without_dashes words

-- A word is a number from 1 to a largest, in decimal digits with no sign and no leading zero.
abbrev pub IsNumeralTo : ℕ → List ℕ → ℕ → Type 0
IsNumeralTo most word number = (word ≡ decimal number) × IsFromTo 1 most number

-- A run has 1 to 2000 scans.
abbrev pub IsNumberOfScans : ℕ → Type 0
IsNumberOfScans scans = IsFromTo 1 most_scans scans

-- The words are a number of scans, beside which one `--` may stand.
abbrev pub AreScans : List (List ℕ) → ℕ → Type 0
AreScans words scans = (without_dashes words ≡ decimal scans ∷ []) × IsNumberOfScans scans

-- The words are a number from 1 to a largest and a number of scans, among which one `--` may stand.
abbrev pub AreNumberAndScans : ℕ → List (List ℕ) → ℕ × ℕ → Type 0
AreNumberAndScans most words both =
    (without_dashes words ≡ decimal both.0 ∷ decimal both.1 ∷ []) × IsFromTo 1 most both.0
    × IsNumberOfScans both.1

-- The words are a number from 1 to a largest and two numbers of scans, among which one `--` may
-- stand.
abbrev pub AreNumberAndTwoScans : ℕ → List (List ℕ) → ℕ × ℕ × ℕ → Type 0
AreNumberAndTwoScans most words three =
    (without_dashes words ≡ decimal three.0 ∷ decimal three.1 ∷ decimal three.2 ∷ [])
    × IsFromTo 1 most three.0 × IsNumberOfScans three.1
    × IsNumberOfScans three.2

-- The words are a node, what is asked, and a depth where there is one, among which one `--` may
-- stand.
abbrev pub AskNever : List (List ℕ) → ℕ × Question × Option ℕ → Type 0
AskNever words three =
    AreAsked (without_dashes words) three.0 three.1 three.2 × IsNode three.0 × IsDepth three.2

-- The words are a node and a depth where there is one, among which one `--` may stand.
abbrev pub AskSame : List (List ℕ) → ℕ × Option ℕ → Type 0
AskSame words both =
    (without_dashes words ≡ decimal both.0 ∷ map decimal (option_to_list both.1)) × IsNode both.0
    × IsDepth both.1

-- The word that names a task.
abbrev pub task_name : Task → List ℕ
task_name Run = codes "run"
task_name Trace = codes "trace"
task_name Check = codes "check"
task_name Replay = codes "replay"

-- The word that names a command.
abbrev pub command_name : Command → List ℕ
command_name (Do task scans) = task_name task
command_name (Gen number scans) = codes "gen"
command_name (Session node scans) = codes "session"
command_name (Flow first last) = codes "flow"
command_name (Standby node fail scans) = codes "standby"
command_name (Never node asked depth) = codes "never"
command_name (Cop scans) = codes "cop"
command_name (Same node depth) = codes "same"

-- The words are those of a command after its name: its numbers, in decimal digits with no sign and
-- no leading zero, and with them what is asked.
abbrev pub AreWordsOf : Command → List (List ℕ) → Type 0
AreWordsOf (Do task scans) words = words ≡ decimal scans ∷ []
AreWordsOf (Gen number scans) words = words ≡ decimal number ∷ decimal scans ∷ []
AreWordsOf (Session node scans) words = words ≡ decimal node ∷ decimal scans ∷ []
AreWordsOf (Flow first last) words = words ≡ decimal first ∷ decimal last ∷ []
AreWordsOf (Standby node fail scans) words =
    words ≡ decimal node ∷ decimal fail ∷ decimal scans ∷ []
AreWordsOf (Never node asked depth) words = AreAsked words node asked depth
AreWordsOf (Cop scans) words = words ≡ decimal scans ∷ []
AreWordsOf (Same node depth) words = words ≡ decimal node ∷ map decimal (option_to_list depth)

-- The numbers of a command are in their ranges.
abbrev pub IsCommandInRange : Command → Type 0
IsCommandInRange (Do task scans) = IsNumberOfScans scans
IsCommandInRange (Gen number scans) = IsPlantNumber number × IsNumberOfScans scans
IsCommandInRange (Session node scans) = IsNode node × IsNumberOfScans scans
IsCommandInRange (Flow first last) = IsFromTo 1 last first × IsNumberOfScans last
IsCommandInRange (Standby node fail scans) =
    IsNode node × IsFromTo 1 scans fail × IsNumberOfScans scans
IsCommandInRange (Never node asked depth) = IsNode node × IsDepth depth
IsCommandInRange (Cop scans) = IsNumberOfScans scans
IsCommandInRange (Same node depth) = IsNode node × IsDepth depth

-- A command of this name, and behind the name its words, among which one `--` may stand.
pub record SpellsBehind (name : List ℕ) (behind : List (List ℕ)) (command : Command)
    : Type 0 where
  pub named : command_name command ≡ name
  pub words : AreWordsOf command (without_dashes behind)
  pub in_range : IsCommandInRange command

-- The words are those of this command: its name, and what stands behind it.
abbrev pub SpellsCommand : List (List ℕ) → Command → Type 0
SpellsCommand [] command = ⊥
SpellsCommand (name ∷ behind) command = SpellsBehind name behind command

-- The words are those of a live run of so many scans.
pub record SpellsLiveBehind (name : List ℕ) (behind : List (List ℕ)) (scans : ℕ) : Type 0 where
  pub named : codes "live" ≡ name
  pub numbers : without_dashes behind ≡ decimal scans ∷ []
  pub in_range : IsNumberOfScans scans

-- The words are those of a live run: its name, and what stands behind it.
abbrev pub SpellsLive : List (List ℕ) → ℕ → Type 0
SpellsLive [] scans = ⊥
SpellsLive (name ∷ behind) scans = SpellsLiveBehind name behind scans
