use Rattle.std.proofs.Common.{ℕ, Option, Some, codes, subst}
use Rattle.plant_types.specs.Limits.{most_scans}
use Rattle.command_words.specs.Arguments.{HasNumeral}
use Rattle.command_words.specs.Words.{ReadsJust}
use Rattle.command_words.proofs.ThreeNumbers.{Three-read}
use Rattle.command_words.proofs.three_numbers.three_among.Goals as goal

pub returns : goal.returns
returns c =
    let matches = c.args.matches.now in
    let IsFirst : ℕ → Type 0 = HasNumeral matches (codes "K") c.args.most in
    let IsSecond : ℕ → Type 0 = HasNumeral matches (codes "F") most_scans in
    let IsThird : ℕ → Type 0 = HasNumeral matches (codes "N") most_scans in
    let P : Option ℕ → Type 0 = ReadsJust IsFirst in
    let Q : Option ℕ → Type 0 = ReadsJust IsSecond in
    let R : Option ℕ → Type 0 = ReadsJust IsThird in
    Three-read IsFirst IsSecond IsThird (Some c.in_ok-number.number) (Some c.in_ok-first.first)
    (Some c.in_ok-scans.scans) (subst P c.in_ok-number.was c.number_among.ensures)
    (subst Q c.in_ok-first.was c.number_among-2.ensures)
    (subst R c.in_ok-scans.was c.number_among-3.ensures)
