use Rattle.std.proofs.Common.{ℕ, Option, Some, None, codes, map, string_bytes, subst, sym}
use Rattle.command_words.specs.declared.words.Command.{Command}
use Rattle.command_words.specs.Words.{AreNumberAndScans, ReadsJust, SpellsBehind}
use Rattle.command_words.proofs.SpelledFlow.{Spells-flow}
use Rattle.command_words.proofs.flows.flow_behind.Goals as goal

pub returns-in-Some : goal.returns-in-Some
returns-in-Some c =
    let behind = map string_bytes c.args.behind.now in
    let P : Option (ℕ × ℕ) → Type 0 = ReadsJust (AreNumberAndScans 2000 behind) in
    let Q : Option Command → Type 0 = ReadsJust (SpellsBehind (codes "flow") behind) in
    subst Q (sym c.flow_from.ensures)
    (Spells-flow behind (Some (c.in-Some.first, c.in-Some.last))
    (subst P c.in-Some.is c.in_ok-first.ensures))

pub returns-in-None : goal.returns-in-None
returns-in-None c =
    let behind = map string_bytes c.args.behind.now in
    let P : Option (ℕ × ℕ) → Type 0 = ReadsJust (AreNumberAndScans 2000 behind) in
    Spells-flow behind None (subst P c.in-None.is c.in_ok-first.ensures)
