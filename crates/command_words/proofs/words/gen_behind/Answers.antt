use Rattle.std.proofs.Common.{ℕ, Option, Some, None, map, string_bytes, subst}
use Rattle.command_words.specs.Words.{AreNumberAndScans, ReadsJust}
use Rattle.command_words.proofs.Spelled.{Spells-gen}
use Rattle.command_words.proofs.words.gen_behind.Goals as goal

pub returns-in-Some : goal.returns-in-Some
returns-in-Some c =
    let behind = map string_bytes c.args.behind.now in
    let P : Option (ℕ × ℕ) → Type 0 = ReadsJust (AreNumberAndScans 9999 behind) in
    Spells-gen behind (Some (c.in-Some.number, c.in-Some.scans))
    (subst P c.in-Some.is c.in_ok-number.ensures)

pub returns-in-None : goal.returns-in-None
returns-in-None c =
    let behind = map string_bytes c.args.behind.now in
    let P : Option (ℕ × ℕ) → Type 0 = ReadsJust (AreNumberAndScans 9999 behind) in
    Spells-gen behind None (subst P c.in-None.is c.in_ok-number.ensures)
