use Rattle.std.proofs.Common.{ℕ, Option, Some, None, codes, map, string_bytes, refl, subst, sym}
use Rattle.std.proofs.Common.{arith}
use Rattle.plant_types.specs.Limits.{most_address}
use Rattle.command_words.specs.declared.words.Command.{Command}
use Rattle.command_words.specs.Words.{AreNumberAndTwoScans, ReadsJust, SpellsBehind}
use Rattle.command_words.proofs.SpelledStandby.{Spells-standby}
use Rattle.command_words.proofs.standbys.standby_behind.Goals as goal

pub overflow_cast-node : goal.overflow_cast-node
overflow_cast-node c =
    let behind = map string_bytes c.args.behind.now in
    let P : Option (ℕ × ℕ × ℕ) → Type 0 = ReadsJust (AreNumberAndTwoScans most_address behind) in
    let reads = subst P c.in-Some.is c.in_ok-node.ensures in
    omega (arith, ((reads (c.in-Some.node, c.in-Some.fail, c.in-Some.scans)).0 refl).1.to)

pub returns-in-Some : goal.returns-in-Some
returns-in-Some c =
    let behind = map string_bytes c.args.behind.now in
    let P : Option (ℕ × ℕ × ℕ) → Type 0 = ReadsJust (AreNumberAndTwoScans most_address behind) in
    let Q : Option Command → Type 0 = ReadsJust (SpellsBehind (codes "standby") behind) in
    subst Q (sym c.standby_from.ensures)
    (Spells-standby behind (Some (c.in-Some.node, c.in-Some.fail, c.in-Some.scans))
    (subst P c.in-Some.is c.in_ok-node.ensures))

pub returns-in-None : goal.returns-in-None
returns-in-None c =
    let behind = map string_bytes c.args.behind.now in
    let P : Option (ℕ × ℕ × ℕ) → Type 0 = ReadsJust (AreNumberAndTwoScans most_address behind) in
    Spells-standby behind None (subst P c.in-None.is c.in_ok-node.ensures)
