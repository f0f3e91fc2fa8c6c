use Rattle.std.proofs.Common.{rules, ◌≡◌, ◌∙◌, ap, ap₂, refl, sym, codes, map, string_bytes, arith}
use Rattle.std.specs.Prelude.{[], false, true}
use Rattle.std.specs.Fmt.{decimal}
use Rattle.clap.specs.Words.{app_of, fault_of, first_of, first_value, found_of, rule_of, matches_of}
use Rattle.clap.specs.Words.{rows_of, with_rule}
use Rattle.clap.proofs.WalkLemmas.{first_value-rows}
use Rattle.command_words.proofs.OneNumber.{bare, needed}
use Rattle.command_words.proofs.TwoNumbers.{asked_are, numbers_app, numbers_pass}
use Rattle.command_words.proofs.arguments.number_and_scans_of.Goals as goal

pub returns-in_default : goal.returns-in_default
returns-in_default c =
    let number_is : rule_of c.required.result ≡ needed (codes "K") = search rules in
    let scans_is : rule_of c.required-2.result ≡ needed (codes "N") = search rules in
    let bare_is : app_of c.disable_help_flag.result ≡ bare (codes "numbers") = search rules in
    let app_is : app_of c.in_ok-command.command ≡ numbers_app =
    c.in_ok-command.ensures.shape (search rules)
    ∙ ap₂ with_rule
    (c.in_ok-arg.ensures.shape (search rules) ∙ ap₂ with_rule bare_is number_is) scans_is in
    let words = map string_bytes c.args.words.now in
    λ both. (
      λ none. cc,
      λ asked.
          let passed = ap (λ a. fault_of a words) app_is
          ∙ numbers_pass words both.0 both.1 (omega (arith, asked.1.to, c.ranges.most))
          (omega (arith, asked.2.to)) asked.0 in
          let some = c.in_ok-matches.ensures.taken.1 passed in
          let none : false ≡ true = rw c.in_default.is at some in
          cc,
    )

pub returns : goal.returns
returns c =
    let number_is : rule_of c.required.result ≡ needed (codes "K") = search rules in
    let scans_is : rule_of c.required-2.result ≡ needed (codes "N") = search rules in
    let bare_is : app_of c.disable_help_flag.result ≡ bare (codes "numbers") = search rules in
    let app_is : app_of c.in_ok-command.command ≡ numbers_app =
    c.in_ok-command.ensures.shape (search rules)
    ∙ ap₂ with_rule
    (c.in_ok-arg.ensures.shape (search rules) ∙ ap₂ with_rule bare_is number_is) scans_is in
    let words = map string_bytes c.args.words.now in
    let found = found_of c.in-Some.matches in
    let passed : fault_of numbers_app words ≡ [] =
    ap (λ a. fault_of a words) (sym app_is)
    ∙ c.in_ok-matches.ensures.taken.0 (rw c.in-Some.is refl) in
    let rows : rows_of found ≡ matches_of numbers_app words =
    (rw c.in-Some.is at c.in_ok-matches.ensures.rows) ∙ ap (λ a. matches_of a words) app_is in
    let first : first_value found (codes "K")
    ≡ first_of (codes "K") (matches_of numbers_app words) =
    first_value-rows found (codes "K") ∙ ap (first_of (codes "K")) rows in
    let second : first_value found (codes "N")
    ≡ first_of (codes "N") (matches_of numbers_app words) =
    first_value-rows found (codes "N") ∙ ap (first_of (codes "N")) rows in
    λ both.
    let are = asked_are words passed (first_value found (codes "K"))
    (first_value found (codes "N")) first second
    (decimal both.0) (decimal both.1) in (
      λ e.
          let got = (c.both_among.ensures both).0 e in
          (are.0 (got.0.0, got.1.0), got.0.1, got.1.1),
      λ asked.
          let got = are.1 asked.0 in
          (c.both_among.ensures both).1 ((got.0, asked.1), (got.1, asked.2)),
    )
