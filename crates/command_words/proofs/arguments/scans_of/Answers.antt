use Rattle.std.proofs.Common.{rules, ◌≡◌, ◌∙◌, ap, ap₂, refl, sym, codes, map, string_bytes, arith}
use Rattle.std.specs.Prelude.{[], false, true}
use Rattle.std.specs.Fmt.{decimal}
use Rattle.clap.specs.Words.{app_of, fault_of, first_of, first_value, found_of, rule_of, matches_of}
use Rattle.clap.specs.Words.{with_rule}
use Rattle.clap.proofs.WalkLemmas.{first_value-rows}
use Rattle.command_words.proofs.OneNumber.{bare, needed, scans_app, scans_pass, asked_is}
use Rattle.command_words.proofs.arguments.scans_of.Goals as goal

pub returns-in_default : goal.returns-in_default
returns-in_default c =
    let rule_is : rule_of c.required.result ≡ needed (codes "N") = search rules in
    let bare_is : app_of c.disable_help_flag.result ≡ bare (codes "scans") = search rules in
    let app_is : app_of c.in_ok-command.command ≡ scans_app =
    c.in_ok-command.ensures.shape (search rules) ∙ ap₂ with_rule bare_is rule_is in
    let words = map string_bytes c.args.words.now in
    λ scans. (
      λ none. cc,
      λ asked.
          let passed = ap (λ a. fault_of a words) app_is
          ∙ scans_pass words scans (omega (arith, asked.1.to)) asked.0 in
          let some = c.in_ok-matches.ensures.taken.1 passed in
          let none : false ≡ true = rw c.in_default.is at some in
          cc,
    )

pub returns : goal.returns
returns c =
    let rule_is : rule_of c.required.result ≡ needed (codes "N") = search rules in
    let bare_is : app_of c.disable_help_flag.result ≡ bare (codes "scans") = search rules in
    let app_is : app_of c.in_ok-command.command ≡ scans_app =
    c.in_ok-command.ensures.shape (search rules) ∙ ap₂ with_rule bare_is rule_is in
    let words = map string_bytes c.args.words.now in
    let passed : fault_of scans_app words ≡ [] =
    ap (λ a. fault_of a words) (sym app_is)
    ∙ c.in_ok-matches.ensures.taken.0 (rw c.in-Some.is refl) in
    let rows = rw c.in-Some.is at c.in_ok-matches.ensures.rows in
    let text : first_value (found_of c.in-Some.matches) (codes "N")
    ≡ first_of (codes "N") (matches_of scans_app words) =
    first_value-rows (found_of c.in-Some.matches) (codes "N")
    ∙ ap (first_of (codes "N")) (rows ∙ ap (λ a. matches_of a words) app_is) in
    λ scans. (
      λ e. let got = (c.number_among.ensures scans).0 e in
          ((asked_is words passed _ text (decimal scans)).0 got.0, got.1),
      λ asked. (c.number_among.ensures scans).1
          ((asked_is words passed _ text (decimal scans)).1 asked.0, asked.1),
    )
