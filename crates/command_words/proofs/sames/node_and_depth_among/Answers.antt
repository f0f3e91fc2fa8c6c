use Rattle.std.proofs.Common.{ℕ, Option, Some, codes, subst}
use Rattle.plant_types.specs.Limits.{most_address}
use Rattle.command_words.specs.Arguments.{HasDepth, HasNumeral}
use Rattle.command_words.specs.Words.{ReadsJust}
use Rattle.command_words.proofs.SameWords.{Two-read}
use Rattle.command_words.proofs.sames.node_and_depth_among.Goals as goal

pub returns : goal.returns
returns c =
    let matches = c.args.matches.now in
    let IsFirst : ℕ → Type 0 = HasNumeral matches (codes "K") most_address in
    let IsSecond : Option ℕ → Type 0 = HasDepth matches in
    let P : Option ℕ → Type 0 = ReadsJust IsFirst in
    let Q : Option (Option ℕ) → Type 0 = ReadsJust IsSecond in
    Two-read IsFirst IsSecond (Some c.in_ok-node.node) (Some c.in_ok-depth.depth)
    (subst P c.in_ok-node.was c.number_among.ensures)
    (subst Q c.in_ok-depth.was c.depth_among.ensures)
