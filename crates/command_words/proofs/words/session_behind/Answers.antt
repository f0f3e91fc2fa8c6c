use Rattle.std.proofs.Common.{ℕ, Option, Some, None, map, string_bytes, refl, subst, arith}
use Rattle.plant_types.specs.Limits.{most_address}
use Rattle.command_words.specs.Words.{AreNumberAndScans, ReadsJust}
use Rattle.command_words.proofs.Spelled.{Spells-session}
use Rattle.command_words.proofs.words.session_behind.Goals as goal

pub overflow_cast-result : goal.overflow_cast-result
overflow_cast-result c =
    let behind = map string_bytes c.args.behind.now in
    let P : Option (ℕ × ℕ) → Type 0 = ReadsJust (AreNumberAndScans most_address behind) in
    let reads = subst P c.in-Some.is c.in_ok-node.ensures in
    omega (arith, ((reads (c.in-Some.node, c.in-Some.scans)).0 refl).1.to)

pub returns-in-Some : goal.returns-in-Some
returns-in-Some c =
    let behind = map string_bytes c.args.behind.now in
    let P : Option (ℕ × ℕ) → Type 0 = ReadsJust (AreNumberAndScans most_address behind) in
    Spells-session behind (Some (c.in-Some.node, c.in-Some.scans))
    (subst P c.in-Some.is c.in_ok-node.ensures)

pub returns-in-None : goal.returns-in-None
returns-in-None c =
    let behind = map string_bytes c.args.behind.now in
    let P : Option (ℕ × ℕ) → Type 0 = ReadsJust (AreNumberAndScans most_address behind) in
    Spells-session behind None (subst P c.in-None.is c.in_ok-node.ensures)
