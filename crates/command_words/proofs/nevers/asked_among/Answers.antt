use Rattle.std.proofs.Common.{◌≡◌, ◌∙◌, ℕ, Option, Some, None, codes, subst, sym}
use Rattle.plant_types.specs.Limits.{most_address}
use Rattle.command_words.specs.declared.words.Question.{Question}
use Rattle.command_words.specs.Arguments.{HasDepth, HasNumeral, HasQuestion}
use Rattle.command_words.specs.Words.{ReadsJust}
use Rattle.command_words.proofs.ThreeNumbers.{Three-read}
use Rattle.command_words.proofs.nevers.asked_among.Goals as goal

pub returns : goal.returns
returns c =
    let matches = c.args.matches.now in
    let IsFirst : ℕ → Type 0 = HasNumeral matches (codes "K") most_address in
    let IsSecond : Question → Type 0 = HasQuestion matches in
    let IsThird : Option ℕ → Type 0 = HasDepth matches in
    let P : Option ℕ → Type 0 = ReadsJust IsFirst in
    let Q : Option Question → Type 0 = ReadsJust IsSecond in
    let R : Option (Option ℕ) → Type 0 = ReadsJust IsThird in
    Three-read IsFirst IsSecond IsThird (Some c.in_ok-node.node) (Some c.in_ok-asked.asked)
    (Some c.in_ok-depth.depth) (subst P c.in_ok-node.was c.number_among.ensures)
    (subst Q c.in_ok-asked.was c.question_among.ensures)
    (subst R c.in_ok-depth.was c.depth_among.ensures)

none-some : (asked : Question) → None ≡ Some asked → ⊥
none-some asked e = absurd (cc)

pub returns-in_err-asked : goal.returns-in_err-asked
returns-in_err-asked c = λ value. (
  λ e. cc,
  λ has. absurd (none-some value.1
      (sym c.in_err-asked.was ∙ (c.question_among.ensures value.1).1 has.1)),
)
