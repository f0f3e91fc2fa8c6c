-- The words that ask what conducted.
use Rattle.std.proofs.Common.{◌≡◌, ◌≤◌, ℕ, Bool, true, false, List, Option, Some, None}
use Rattle.std.proofs.Common.{ap, sym, refl, subst, arith}
use Rattle.std.specs.Prelude.{codes, if◌then◌else◌, nat_le, option_and_then}
use Rattle.command_words.specs.declared.words.Command.{Command}
use Rattle.command_words.specs.declared.words.Command.TheVariants.{Cop, Do, Flow, Gen}
use Rattle.command_words.specs.declared.words.Command.TheVariants.{Never, Same, Session, Standby}
use Rattle.command_words.specs.Words.{AreNumberAndScans, ReadsJust, SpellsBehind}
use Rattle.command_words.specs.Flows.{flow_from}
use Rattle.command_words.proofs.Spelled.{IsMade, Spells-made, differ, flow-no-task, no-task}

abbrev pub flow_made : ℕ × ℕ → Option Command
flow_made both = flow_from both.0 both.1

flow-spelled : (behind : List (List ℕ)) (both : ℕ × ℕ) (command : Command)
    → flow_made both ≡ Some command → AreNumberAndScans 2000 behind both
    → SpellsBehind (codes "flow") behind command
flow-spelled behind (first, last) command made asked = go (nat_le first last) refl made
  where
    go : (b : Bool) → nat_le first last ≡ b
        → (if b then Some (Flow first last) else None) ≡ Some command
        → SpellsBehind (codes "flow") behind command
    go true le e =
        let same : Flow first last ≡ command = cc in
        let within : first ≤ last = grind arith in
        subst (SpellsBehind (codes "flow") behind) same (record {
          named = refl;
          words = asked.0;
          in_range = (record { from = asked.1.from; to = within }, asked.2);
        })
    go false le e = absurd (cc)

flow-each : (behind : List (List ℕ)) (command : Command)
    → SpellsBehind (codes "flow") behind command
    → IsMade (AreNumberAndScans 2000 behind) flow_made command
flow-each behind (Flow first last) spells =
    let order = spells.in_range.0 in
    let within = spells.in_range.1 in
    let le : nat_le first last ≡ true = let to = order.to in grind (arith, to) in
    record {
      value = (first, last);
      made = ap (λ b. if b then Some (Flow first last) else None) le;
      read = (
        spells.words,
        record { from = order.from; to = let a = order.to in let b = within.to in omega (arith, a, b) },
        within,
      );
    }
flow-each behind (Do task scans) spells =
    absurd (no-task (codes "flow") flow-no-task task (sym spells.named))
flow-each behind (Gen number scans) spells =
    absurd (differ (codes "gen") (codes "flow") refl refl spells.named)
flow-each behind (Session node scans) spells =
    absurd (differ (codes "session") (codes "flow") refl refl spells.named)
flow-each behind (Standby node fail scans) spells =
    absurd (differ (codes "standby") (codes "flow") refl refl spells.named)
flow-each behind (Never node asked depth) spells =
    absurd (differ (codes "never") (codes "flow") refl refl spells.named)
flow-each behind (Cop scans) spells =
    absurd (differ (codes "cop") (codes "flow") refl refl spells.named)
flow-each behind (Same node depth) spells =
    absurd (differ (codes "same") (codes "flow") refl refl spells.named)

-- what conducted, from one to another of two scans that were read behind its name
pub Spells-flow : (behind : List (List ℕ)) (read : Option (ℕ × ℕ))
    → ReadsJust (AreNumberAndScans 2000 behind) read
    → ReadsJust (SpellsBehind (codes "flow") behind) (option_and_then flow_made read)
Spells-flow behind read reads =
    Spells-made (codes "flow") behind (AreNumberAndScans 2000 behind) flow_made
    (flow-spelled behind) (flow-each behind) read reads
