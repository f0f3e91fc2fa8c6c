-- The words that ask what a controller never comes to.
use Rattle.std.proofs.Common.{◌≡◌, ℕ, List, Option, Some, None, sym, refl, subst}
use Rattle.std.specs.Prelude.{codes, option_and_then}
use Rattle.command_words.specs.declared.words.Command.{Command}
use Rattle.command_words.specs.declared.words.Command.TheVariants.{Cop, Do, Flow, Gen}
use Rattle.command_words.specs.declared.words.Command.TheVariants.{Never, Same, Session, Standby}
use Rattle.command_words.specs.declared.words.Question.{Question}
use Rattle.command_words.specs.Words.{AskNever, ReadsJust, SpellsBehind}
use Rattle.command_words.proofs.Spelled.{IsMade, Spells-made, differ, never-no-task, no-task}

abbrev pub never_made : ℕ × Question × Option ℕ → Option Command
never_made three = Some (Never three.0 three.1 three.2)

never-spelled : (behind : List (List ℕ)) (three : ℕ × Question × Option ℕ) (command : Command)
    → never_made three ≡ Some command → AskNever behind three
    → SpellsBehind (codes "never") behind command
never-spelled behind three command made asked =
    let same : Never three.0 three.1 three.2 ≡ command = cc in
    subst (SpellsBehind (codes "never") behind) same
    (record { named = refl; words = asked.0; in_range = (asked.1, asked.2) })

never-each : (behind : List (List ℕ)) (command : Command)
    → SpellsBehind (codes "never") behind command → IsMade (AskNever behind) never_made command
never-each behind (Never node asked depth) spells = record {
  value = (node, asked, depth);
  made = refl;
  read = (spells.words, spells.in_range.0, spells.in_range.1);
}
never-each behind (Do task scans) spells =
    absurd (no-task (codes "never") never-no-task task (sym spells.named))
never-each behind (Gen number scans) spells =
    absurd (differ (codes "gen") (codes "never") refl refl spells.named)
never-each behind (Session node scans) spells =
    absurd (differ (codes "session") (codes "never") refl refl spells.named)
never-each behind (Flow first last) spells =
    absurd (differ (codes "flow") (codes "never") refl refl spells.named)
never-each behind (Standby node fail scans) spells =
    absurd (differ (codes "standby") (codes "never") refl refl spells.named)
never-each behind (Cop scans) spells =
    absurd (differ (codes "cop") (codes "never") refl refl spells.named)
never-each behind (Same node depth) spells =
    absurd (differ (codes "same") (codes "never") refl refl spells.named)

-- what was read behind the name that a controller never comes to
pub Spells-never : (behind : List (List ℕ)) (read : Option (ℕ × Question × Option ℕ))
    → ReadsJust (AskNever behind) read
    → ReadsJust (SpellsBehind (codes "never") behind) (option_and_then never_made read)
Spells-never behind read reads =
    Spells-made (codes "never") behind (AskNever behind) never_made (never-spelled behind)
    (never-each behind) read reads
