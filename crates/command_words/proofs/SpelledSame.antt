-- The words that ask whether two controllers do the same.
use Rattle.std.proofs.Common.{◌≡◌, ℕ, List, Option, Some, None, sym, refl, subst}
use Rattle.std.specs.Prelude.{codes, option_and_then}
use Rattle.command_words.specs.declared.words.Command.{Command}
use Rattle.command_words.specs.declared.words.Command.TheVariants.{Cop, Do, Flow, Gen}
use Rattle.command_words.specs.declared.words.Command.TheVariants.{Never, Same, Session, Standby}
use Rattle.command_words.specs.Words.{AskSame, ReadsJust, SpellsBehind}
use Rattle.command_words.proofs.Spelled.{IsMade, Spells-made, differ, no-task, same-no-task}

abbrev pub same_made : ℕ × Option ℕ → Option Command
same_made both = Some (Same both.0 both.1)

same-spelled : (behind : List (List ℕ)) (both : ℕ × Option ℕ) (command : Command)
    → same_made both ≡ Some command → AskSame behind both
    → SpellsBehind (codes "same") behind command
same-spelled behind both command made asked =
    let same : Same both.0 both.1 ≡ command = cc in
    subst (SpellsBehind (codes "same") behind) same
    (record { named = refl; words = asked.0; in_range = (asked.1, asked.2) })

same-each : (behind : List (List ℕ)) (command : Command)
    → SpellsBehind (codes "same") behind command → IsMade (AskSame behind) same_made command
same-each behind (Same node depth) spells = record {
  value = (node, depth);
  made = refl;
  read = (spells.words, spells.in_range.0, spells.in_range.1);
}
same-each behind (Do task scans) spells =
    absurd (no-task (codes "same") same-no-task task (sym spells.named))
same-each behind (Gen number scans) spells =
    absurd (differ (codes "gen") (codes "same") refl refl spells.named)
same-each behind (Session node scans) spells =
    absurd (differ (codes "session") (codes "same") refl refl spells.named)
same-each behind (Flow first last) spells =
    absurd (differ (codes "flow") (codes "same") refl refl spells.named)
same-each behind (Standby node fail scans) spells =
    absurd (differ (codes "standby") (codes "same") refl refl spells.named)
same-each behind (Never node asked depth) spells =
    absurd (differ (codes "never") (codes "same") refl refl spells.named)
same-each behind (Cop scans) spells =
    absurd (differ (codes "cop") (codes "same") refl refl spells.named)

-- what was read behind the name of two controllers that are to do the same
pub Spells-same : (behind : List (List ℕ)) (read : Option (ℕ × Option ℕ))
    → ReadsJust (AskSame behind) read
    → ReadsJust (SpellsBehind (codes "same") behind) (option_and_then same_made read)
Spells-same behind read reads =
    Spells-made (codes "same") behind (AskSame behind) same_made (same-spelled behind)
    (same-each behind) read reads
