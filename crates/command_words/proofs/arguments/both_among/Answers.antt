use Rattle.std.proofs.Common.{ℕ, Option, Some, codes, subst}
use Rattle.clap.specs.Words.{first_value, found_of}
use Rattle.command_words.specs.Words.{ReadsJust}
use Rattle.command_words.proofs.TwoNumbers.{Both-read, IsNumeralOf}
use Rattle.command_words.proofs.arguments.both_among.Goals as goal

pub returns-in-Some-number_among : goal.returns-in-Some-number_among
returns-in-Some-number_among c =
    let first = first_value (found_of c.args.matches.now) (codes "K") in
    let second = first_value (found_of c.args.matches.now) (codes "N") in
    let P : Option ℕ → Type 0 = ReadsJust (IsNumeralOf first c.args.most) in
    let Q : Option ℕ → Type 0 = ReadsJust (IsNumeralOf second 2000) in
    Both-read (Some c.in-Some.number) (Some c.in-Some-number_among.scans) first second
    c.args.most 2000 (subst P c.in-Some.is c.number_among.ensures)
    (subst Q c.in-Some-number_among.is c.number_among-in-Some.ensures)
