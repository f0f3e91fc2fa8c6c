-- The words that ask for a primary and its standby.
use Rattle.std.proofs.Common.{◌≡◌, ◌≤◌, ℕ, Bool, true, false, List, Option, Some, None}
use Rattle.std.proofs.Common.{ap, sym, refl, subst, arith}
use Rattle.std.specs.Prelude.{codes, if◌then◌else◌, nat_le, option_and_then}
use Rattle.plant_types.specs.Limits.{most_address}
use Rattle.command_words.specs.declared.words.Command.{Command}
use Rattle.command_words.specs.declared.words.Command.TheVariants.{Cop, Do, Flow, Gen}
use Rattle.command_words.specs.declared.words.Command.TheVariants.{Never, Same, Session, Standby}
use Rattle.command_words.specs.Words.{AreNumberAndTwoScans, ReadsJust, SpellsBehind}
use Rattle.command_words.specs.Standbys.{standby_from}
use Rattle.command_words.proofs.Spelled.{IsMade, Spells-made, differ, no-task, standby-no-task}

abbrev pub standby_made : ℕ × ℕ × ℕ → Option Command
standby_made three = standby_from three.0 three.1 three.2

standby-spelled : (behind : List (List ℕ)) (three : ℕ × ℕ × ℕ) (command : Command)
    → standby_made three ≡ Some command → AreNumberAndTwoScans most_address behind three
    → SpellsBehind (codes "standby") behind command
standby-spelled behind (node, fail, scans) command made asked = go (nat_le fail scans) refl made
  where
    go : (b : Bool) → nat_le fail scans ≡ b
        → (if b then Some (Standby node fail scans) else None) ≡ Some command
        → SpellsBehind (codes "standby") behind command
    go true le e =
        let same : Standby node fail scans ≡ command = cc in
        let within : fail ≤ scans = grind arith in
        subst (SpellsBehind (codes "standby") behind) same (record {
          named = refl;
          words = asked.0;
          in_range = (asked.1, record { from = asked.2.from; to = within }, asked.3);
        })
    go false le e = absurd (cc)

standby-each : (behind : List (List ℕ)) (command : Command)
    → SpellsBehind (codes "standby") behind command
    → IsMade (AreNumberAndTwoScans most_address behind) standby_made command
standby-each behind (Standby node fail scans) spells =
    let order = spells.in_range.1 in
    let within = spells.in_range.2 in
    let le : nat_le fail scans ≡ true = let to = order.to in grind (arith, to) in
    record {
      value = (node, fail, scans);
      made = ap (λ b. if b then Some (Standby node fail scans) else None) le;
      read = (
        spells.words,
        spells.in_range.0,
        record { from = order.from; to = let a = order.to in let b = within.to in omega (arith, a, b) },
        within,
      );
    }
standby-each behind (Do task scans) spells =
    absurd (no-task (codes "standby") standby-no-task task (sym spells.named))
standby-each behind (Gen number scans) spells =
    absurd (differ (codes "gen") (codes "standby") refl refl spells.named)
standby-each behind (Session node scans) spells =
    absurd (differ (codes "session") (codes "standby") refl refl spells.named)
standby-each behind (Flow first last) spells =
    absurd (differ (codes "flow") (codes "standby") refl refl spells.named)
standby-each behind (Never node asked depth) spells =
    absurd (differ (codes "never") (codes "standby") refl refl spells.named)
standby-each behind (Cop scans) spells =
    absurd (differ (codes "cop") (codes "standby") refl refl spells.named)
standby-each behind (Same node depth) spells =
    absurd (differ (codes "same") (codes "standby") refl refl spells.named)

-- a primary and its standby, with the numbers that were read behind their name
pub Spells-standby : (behind : List (List ℕ)) (read : Option (ℕ × ℕ × ℕ))
    → ReadsJust (AreNumberAndTwoScans most_address behind) read
    → ReadsJust (SpellsBehind (codes "standby") behind) (option_and_then standby_made read)
Spells-standby behind read reads =
    Spells-made (codes "standby") behind (AreNumberAndTwoScans most_address behind) standby_made
    (standby-spelled behind) (standby-each behind) read reads
