use Rattle.std.proofs.Common.{ℕ, Option, Some, None, map, string_bytes, subst}
use Rattle.command_words.specs.Words.{AreScans, ReadsJust}
use Rattle.command_words.proofs.Spelled.{Spells-cop}
use Rattle.command_words.proofs.cops.cop_behind.Goals as goal

pub returns-in-Some : goal.returns-in-Some
returns-in-Some c =
    let behind = map string_bytes c.args.behind.now in
    let P : Option ℕ → Type 0 = ReadsJust (AreScans behind) in
    Spells-cop behind (Some c.in-Some.scans) (subst P c.in-Some.is c.in_ok-scans.ensures)

pub returns-in-None : goal.returns-in-None
returns-in-None c =
    let behind = map string_bytes c.args.behind.now in
    let P : Option ℕ → Type 0 = ReadsJust (AreScans behind) in
    Spells-cop behind None (subst P c.in-None.is c.in_ok-scans.ensures)
