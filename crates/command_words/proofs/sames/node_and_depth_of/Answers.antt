use Rattle.std.proofs.Common.{rules, ◌≡◌, ◌∙◌, ap, ap₂, refl, sym, codes}
use Rattle.std.proofs.Common.{map, string_bytes, arith}
use Rattle.std.specs.Prelude.{[], false, true}
use Rattle.clap.specs.Words.{app_of, fault_of, first_of, first_value, found_of, rule_of}
use Rattle.clap.specs.Words.{is_simple_and_free, matches_of, rows_of, with_rule}
use Rattle.clap.specs.Simple.{new_rule}
use Rattle.clap.proofs.WalkLemmas.{first_value-rows}
use Rattle.command_words.proofs.OneNumber.{bare, needed}
use Rattle.command_words.proofs.NeverWords.{depth-found}
use Rattle.command_words.proofs.SameWords.{same_app, same_are, same_pass}
use Rattle.command_words.proofs.sames.node_and_depth_of.Goals as goal

pub matches_of-requires : goal.matches_of-requires
matches_of-requires c =
    let node_is : rule_of c.required.result ≡ needed (codes "K") = search rules in
    let depth_is : rule_of c.new-3.result ≡ new_rule (codes "D") = search rules in
    let bare_is : app_of c.disable_help_flag.result ≡ bare (codes "same") = search rules in
    let one_is = c.in_ok-arg.ensures.shape (search rules) ∙ ap₂ with_rule bare_is node_is in
    let app_is : app_of c.in_ok-command.command ≡ same_app =
    c.in_ok-command.ensures.shape (search rules) ∙ ap₂ with_rule one_is depth_is in
    ap is_simple_and_free app_is

pub returns-in_default : goal.returns-in_default
returns-in_default c =
    let node_is : rule_of c.required.result ≡ needed (codes "K") = search rules in
    let depth_is : rule_of c.new-3.result ≡ new_rule (codes "D") = search rules in
    let bare_is : app_of c.disable_help_flag.result ≡ bare (codes "same") = search rules in
    let one_is = c.in_ok-arg.ensures.shape (search rules) ∙ ap₂ with_rule bare_is node_is in
    let app_is : app_of c.in_ok-command.command ≡ same_app =
    c.in_ok-command.ensures.shape (search rules) ∙ ap₂ with_rule one_is depth_is in
    let words = map string_bytes c.args.words.now in
    λ both. (
      λ none. cc,
      λ asked.
          let passed = ap (λ a. fault_of a words) app_is
          ∙ same_pass words both.0 both.1 (omega (arith, asked.1.to)) asked.2 asked.0 in
          let some = c.in_ok-matches.ensures.taken.1 passed in
          let none : false ≡ true = rw c.in_default.is at some in
          cc,
    )

pub returns : goal.returns
returns c =
    let node_is : rule_of c.required.result ≡ needed (codes "K") = search rules in
    let depth_is : rule_of c.new-3.result ≡ new_rule (codes "D") = search rules in
    let bare_is : app_of c.disable_help_flag.result ≡ bare (codes "same") = search rules in
    let one_is = c.in_ok-arg.ensures.shape (search rules) ∙ ap₂ with_rule bare_is node_is in
    let app_is : app_of c.in_ok-command.command ≡ same_app =
    c.in_ok-command.ensures.shape (search rules) ∙ ap₂ with_rule one_is depth_is in
    let words = map string_bytes c.args.words.now in
    let found = found_of c.in-Some.matches in
    let passed : fault_of same_app words ≡ [] =
    ap (λ a. fault_of a words) (sym app_is)
    ∙ c.in_ok-matches.ensures.taken.0 (rw c.in-Some.is refl) in
    let rows : rows_of found ≡ matches_of same_app words =
    (rw c.in-Some.is at c.in_ok-matches.ensures.rows) ∙ ap (λ a. matches_of a words) app_is in
    let first : first_value found (codes "K")
    ≡ first_of (codes "K") (matches_of same_app words) =
    first_value-rows found (codes "K") ∙ ap (first_of (codes "K")) rows in
    let second : first_value found (codes "D")
    ≡ first_of (codes "D") (matches_of same_app words) =
    first_value-rows found (codes "D") ∙ ap (first_of (codes "D")) rows in
    λ both.
    let are = same_are words passed (first_value found (codes "K"))
    (first_value found (codes "D")) first second both.0 both.1 in
    let depth = depth-found c.in-Some.matches both.1 in (
      λ e.
          let got = (c.node_and_depth_among.ensures both).0 e in
          let at = depth.0 got.1 in
          (are.0 (record { node_is = got.0.0; depth_is = at.0 }), got.0.1, at.1),
      λ asked.
          let got = are.1 asked.0 in
          (c.node_and_depth_among.ensures both).1
          ((got.node_is, asked.1), depth.1 (got.depth_is, asked.2)),
    )
