-- Commands and the words that spell them.
use Rattle.std.proofs.Common.{◌≡◌, ℕ, List, Option, Some, None, Ok, Err}
use Rattle.std.proofs.Common.{ap, sym, refl, subst, ◌∙◌, true≢false}
use Rattle.std.specs.Prelude.{IfOk, Result, bytes_eq, codes, false, true, option_and_then}
use Rattle.plant_types.specs.Limits.{most_address}
use Rattle.command_words.specs.declared.words.Command.{Command}
use Rattle.command_words.specs.declared.words.Command.TheVariants.{Cop, Do, Flow, Gen}
use Rattle.command_words.specs.declared.words.Command.TheVariants.{Never, Same, Session, Standby}
use Rattle.command_words.specs.declared.words.Task.{Task}
use Rattle.command_words.specs.declared.words.Task.TheVariants.{Run, Trace, Check, Replay}
use Rattle.command_words.specs.Words.{AreNumberAndScans, AreScans, ReadsJust, SpellsBehind}
use Rattle.command_words.specs.Words.{SpellsLiveBehind, task_name}

-- texts that do not compare are not the same
pub differ : (one other : List ℕ) → bytes_eq one one ≡ true → bytes_eq one other ≡ false
    → one ≡ other → ⊥
differ one other same not is = absurd (true≢false (sym same ∙ ap (bytes_eq one) is ∙ not))

-- a name that is none of the tasks' names
pub record IsNoTask (name : List ℕ) : Type 0 where
  pub own : bytes_eq name name ≡ true
  pub run : bytes_eq name (codes "run") ≡ false
  pub trace : bytes_eq name (codes "trace") ≡ false
  pub check : bytes_eq name (codes "check") ≡ false
  pub replay : bytes_eq name (codes "replay") ≡ false

pub no-task : (name : List ℕ) → IsNoTask name → (task : Task) → name ≡ task_name task → ⊥
no-task name not Run named = differ name (codes "run") not.own not.run named
no-task name not Trace named = differ name (codes "trace") not.own not.trace named
no-task name not Check named = differ name (codes "check") not.own not.check named
no-task name not Replay named = differ name (codes "replay") not.own not.replay named

-- such are the names of all other commands
pub gen-no-task : IsNoTask (codes "gen")
gen-no-task = record { own = refl; run = refl; trace = refl; check = refl; replay = refl }

pub session-no-task : IsNoTask (codes "session")
session-no-task = record { own = refl; run = refl; trace = refl; check = refl; replay = refl }

pub flow-no-task : IsNoTask (codes "flow")
flow-no-task = record { own = refl; run = refl; trace = refl; check = refl; replay = refl }

pub standby-no-task : IsNoTask (codes "standby")
standby-no-task = record { own = refl; run = refl; trace = refl; check = refl; replay = refl }

pub never-no-task : IsNoTask (codes "never")
never-no-task = record { own = refl; run = refl; trace = refl; check = refl; replay = refl }

pub cop-no-task : IsNoTask (codes "cop")
cop-no-task = record { own = refl; run = refl; trace = refl; check = refl; replay = refl }

pub same-no-task : IsNoTask (codes "same")
same-no-task = record { own = refl; run = refl; trace = refl; check = refl; replay = refl }

-- tasks with one name are the same
pub same-task : (task other : Task) → task_name task ≡ task_name other → task ≡ other
same-task Run Run named = refl
same-task Run Trace named = absurd (differ (task_name Run) (task_name Trace) refl refl named)
same-task Run Check named = absurd (differ (task_name Run) (task_name Check) refl refl named)
same-task Run Replay named = absurd (differ (task_name Run) (task_name Replay) refl refl named)
same-task Trace Run named = absurd (differ (task_name Trace) (task_name Run) refl refl named)
same-task Trace Trace named = refl
same-task Trace Check named = absurd (differ (task_name Trace) (task_name Check) refl refl named)
same-task Trace Replay named = absurd (differ (task_name Trace) (task_name Replay) refl refl named)
same-task Check Run named = absurd (differ (task_name Check) (task_name Run) refl refl named)
same-task Check Trace named = absurd (differ (task_name Check) (task_name Trace) refl refl named)
same-task Check Check named = refl
same-task Check Replay named = absurd (differ (task_name Check) (task_name Replay) refl refl named)
same-task Replay Run named = absurd (differ (task_name Replay) (task_name Run) refl refl named)
same-task Replay Trace named = absurd (differ (task_name Replay) (task_name Trace) refl refl named)
same-task Replay Check named = absurd (differ (task_name Replay) (task_name Check) refl refl named)
same-task Replay Replay named = refl

-- what makes a command of values that were read behind its name
pub record IsMade {X : Type 0} (IsRead : X → Type 0) (make : X → Option Command)
    (command : Command) : Type 0 where
  pub value : X
  pub made : make value ≡ Some command
  pub read : IsRead value

-- where what is made of the values is spelled by the words behind a name, and each command of that
-- name is so made, what was read is the command that the words spell
pub Spells-made : {X : Type 0} (name : List ℕ) (behind : List (List ℕ)) (IsRead : X → Type 0)
    (make : X → Option Command)
    → ((value : X) (command : Command) → make value ≡ Some command → IsRead value
    → SpellsBehind name behind command)
    → ((command : Command) → SpellsBehind name behind command → IsMade IsRead make command)
    → (read : Option X) → ReadsJust IsRead read
    → ReadsJust (SpellsBehind name behind) (option_and_then make read)
Spells-made {X = X} name behind IsRead make spelled each read reads command = (
  go read reads,
  λ spells.
      let is = each command spells in
      ap (option_and_then make) ((reads is.value).1 is.read) ∙ is.made,
)
  where
    go : (some : Option X) → ReadsJust IsRead some → option_and_then make some ≡ Some command
        → SpellsBehind name behind command
    go None just e = absurd (cc)
    go (Some value) just e = spelled value command e ((just value).0 refl)

-- ---- a task with the scans that were read behind its name

abbrev pub task_made : Task → ℕ → Option Command
task_made task scans = Some (Do task scans)

task-spelled : (task : Task) (behind : List (List ℕ)) (scans : ℕ) (command : Command)
    → task_made task scans ≡ Some command → AreScans behind scans
    → SpellsBehind (task_name task) behind command
task-spelled task behind scans command made asked =
    let same : Do task scans ≡ command = cc in
    subst (SpellsBehind (task_name task) behind) same
    (record { named = refl; words = asked.0; in_range = asked.1 })

task-each : (task : Task) (behind : List (List ℕ)) (command : Command)
    → SpellsBehind (task_name task) behind command
    → IsMade (AreScans behind) (task_made task) command
task-each task behind (Do other scans) spells = record {
  value = scans;
  made = ap (λ t. Some (Do t scans)) (sym (same-task other task spells.named));
  read = (spells.words, spells.in_range);
}
task-each task behind (Gen number scans) spells =
    absurd (no-task (codes "gen") gen-no-task task spells.named)
task-each task behind (Session node scans) spells =
    absurd (no-task (codes "session") session-no-task task spells.named)
task-each task behind (Flow first last) spells =
    absurd (no-task (codes "flow") flow-no-task task spells.named)
task-each task behind (Standby node fail scans) spells =
    absurd (no-task (codes "standby") standby-no-task task spells.named)
task-each task behind (Never node asked depth) spells =
    absurd (no-task (codes "never") never-no-task task spells.named)
task-each task behind (Cop scans) spells =
    absurd (no-task (codes "cop") cop-no-task task spells.named)
task-each task behind (Same node depth) spells =
    absurd (no-task (codes "same") same-no-task task spells.named)

pub Spells-task : (task : Task) (behind : List (List ℕ)) (read : Option ℕ)
    → ReadsJust (AreScans behind) read
    → ReadsJust (SpellsBehind (task_name task) behind) (option_and_then (task_made task) read)
Spells-task task behind read reads =
    Spells-made (task_name task) behind (AreScans behind) (task_made task)
    (task-spelled task behind) (task-each task behind) read reads

-- ---- a word exchange with the scans that were read behind its name

abbrev pub cop_made : ℕ → Option Command
cop_made scans = Some (Cop scans)

cop-spelled : (behind : List (List ℕ)) (scans : ℕ) (command : Command)
    → cop_made scans ≡ Some command → AreScans behind scans
    → SpellsBehind (codes "cop") behind command
cop-spelled behind scans command made asked =
    let same : Cop scans ≡ command = cc in
    subst (SpellsBehind (codes "cop") behind) same
    (record { named = refl; words = asked.0; in_range = asked.1 })

cop-each : (behind : List (List ℕ)) (command : Command) → SpellsBehind (codes "cop") behind command
    → IsMade (AreScans behind) cop_made command
cop-each behind (Cop scans) spells =
    record { value = scans; made = refl; read = (spells.words, spells.in_range) }
cop-each behind (Do task scans) spells =
    absurd (no-task (codes "cop") cop-no-task task (sym spells.named))
cop-each behind (Gen number scans) spells =
    absurd (differ (codes "gen") (codes "cop") refl refl spells.named)
cop-each behind (Session node scans) spells =
    absurd (differ (codes "session") (codes "cop") refl refl spells.named)
cop-each behind (Flow first last) spells =
    absurd (differ (codes "flow") (codes "cop") refl refl spells.named)
cop-each behind (Standby node fail scans) spells =
    absurd (differ (codes "standby") (codes "cop") refl refl spells.named)
cop-each behind (Never node asked depth) spells =
    absurd (differ (codes "never") (codes "cop") refl refl spells.named)
cop-each behind (Same node depth) spells =
    absurd (differ (codes "same") (codes "cop") refl refl spells.named)

pub Spells-cop : (behind : List (List ℕ)) (read : Option ℕ) → ReadsJust (AreScans behind) read
    → ReadsJust (SpellsBehind (codes "cop") behind) (option_and_then cop_made read)
Spells-cop behind read reads =
    Spells-made (codes "cop") behind (AreScans behind) cop_made (cop-spelled behind)
    (cop-each behind) read reads

-- ---- a summary, and a session, with the numbers that were read behind the name

abbrev pub gen_made : ℕ × ℕ → Option Command
gen_made both = Some (Gen both.0 both.1)

gen-spelled : (behind : List (List ℕ)) (both : ℕ × ℕ) (command : Command)
    → gen_made both ≡ Some command → AreNumberAndScans 9999 behind both
    → SpellsBehind (codes "gen") behind command
gen-spelled behind both command made asked =
    let same : Gen both.0 both.1 ≡ command = cc in
    subst (SpellsBehind (codes "gen") behind) same (record {
      named = refl;
      words = asked.0;
      in_range = ((asked.1.from, asked.1.to), asked.2);
    })

gen-each : (behind : List (List ℕ)) (command : Command) → SpellsBehind (codes "gen") behind command
    → IsMade (AreNumberAndScans 9999 behind) gen_made command
gen-each behind (Gen number scans) spells = record {
  value = (number, scans);
  made = refl;
  read = (
    spells.words,
    record { from = spells.in_range.0.0; to = spells.in_range.0.1 },
    spells.in_range.1,
  );
}
gen-each behind (Do task scans) spells =
    absurd (no-task (codes "gen") gen-no-task task (sym spells.named))
gen-each behind (Session node scans) spells =
    absurd (differ (codes "session") (codes "gen") refl refl spells.named)
gen-each behind (Flow first last) spells =
    absurd (differ (codes "flow") (codes "gen") refl refl spells.named)
gen-each behind (Standby node fail scans) spells =
    absurd (differ (codes "standby") (codes "gen") refl refl spells.named)
gen-each behind (Never node asked depth) spells =
    absurd (differ (codes "never") (codes "gen") refl refl spells.named)
gen-each behind (Cop scans) spells =
    absurd (differ (codes "cop") (codes "gen") refl refl spells.named)
gen-each behind (Same node depth) spells =
    absurd (differ (codes "same") (codes "gen") refl refl spells.named)

pub Spells-gen : (behind : List (List ℕ)) (read : Option (ℕ × ℕ))
    → ReadsJust (AreNumberAndScans 9999 behind) read
    → ReadsJust (SpellsBehind (codes "gen") behind) (option_and_then gen_made read)
Spells-gen behind read reads =
    Spells-made (codes "gen") behind (AreNumberAndScans 9999 behind) gen_made
    (gen-spelled behind) (gen-each behind) read reads

abbrev pub session_made : ℕ × ℕ → Option Command
session_made both = Some (Session both.0 both.1)

session-spelled : (behind : List (List ℕ)) (both : ℕ × ℕ) (command : Command)
    → session_made both ≡ Some command → AreNumberAndScans most_address behind both
    → SpellsBehind (codes "session") behind command
session-spelled behind both command made asked =
    let same : Session both.0 both.1 ≡ command = cc in
    subst (SpellsBehind (codes "session") behind) same
    (record { named = refl; words = asked.0; in_range = (asked.1, asked.2) })

session-each : (behind : List (List ℕ)) (command : Command)
    → SpellsBehind (codes "session") behind command
    → IsMade (AreNumberAndScans most_address behind) session_made command
session-each behind (Session node scans) spells = record {
  value = (node, scans);
  made = refl;
  read = (spells.words, spells.in_range.0, spells.in_range.1);
}
session-each behind (Do task scans) spells =
    absurd (no-task (codes "session") session-no-task task (sym spells.named))
session-each behind (Gen number scans) spells =
    absurd (differ (codes "gen") (codes "session") refl refl spells.named)
session-each behind (Flow first last) spells =
    absurd (differ (codes "flow") (codes "session") refl refl spells.named)
session-each behind (Standby node fail scans) spells =
    absurd (differ (codes "standby") (codes "session") refl refl spells.named)
session-each behind (Never node asked depth) spells =
    absurd (differ (codes "never") (codes "session") refl refl spells.named)
session-each behind (Cop scans) spells =
    absurd (differ (codes "cop") (codes "session") refl refl spells.named)
session-each behind (Same node depth) spells =
    absurd (differ (codes "same") (codes "session") refl refl spells.named)

pub Spells-session : (behind : List (List ℕ)) (read : Option (ℕ × ℕ))
    → ReadsJust (AreNumberAndScans most_address behind) read
    → ReadsJust (SpellsBehind (codes "session") behind) (option_and_then session_made read)
Spells-session behind read reads =
    Spells-made (codes "session") behind (AreNumberAndScans most_address behind) session_made
    (session-spelled behind) (session-each behind) read reads

-- ---- a live run with the scans that were read behind its name

pub Spells-live : {E : Type 0} (name : List ℕ) (behind : List (List ℕ)) (read : Result (Option ℕ) E)
    → name ≡ codes "live"
    → IfOk read (ReadsJust (AreScans behind))
    → IfOk read (ReadsJust (SpellsLiveBehind name behind))
Spells-live name behind (Err e) named reads = tt
Spells-live name behind (Ok asked) named reads = λ scans. (
  λ e. let got = (reads scans).0 e in
      record { named = sym named; numbers = got.0; in_range = got.1 },
  λ spells. (reads scans).1 (spells.numbers, spells.in_range),
)
