use Rattle.std.proofs.Common.{rules, ◌≡◌, ◌∙◌, ap, ap₂, refl, sym, codes, map, string_bytes, arith}
use Rattle.std.specs.Prelude.{[], false, true}
use Rattle.std.specs.Fmt.{decimal}
use Rattle.clap.specs.Words.{app_of, fault_of, first_of, first_value, found_of, rule_of}
use Rattle.clap.specs.Words.{is_simple_and_free, matches_of, rows_of, with_rule}
use Rattle.clap.proofs.WalkLemmas.{first_value-rows}
use Rattle.command_words.proofs.OneNumber.{bare, needed}
use Rattle.command_words.proofs.ThreeNumbers.{asked_three, three_app, three_pass}
use Rattle.command_words.proofs.three_numbers.number_and_two_scans_of.Goals as goal

pub matches_of-requires : goal.matches_of-requires
matches_of-requires c =
    let number_is : rule_of c.required.result ≡ needed (codes "K") = search rules in
    let first_is : rule_of c.required-2.result ≡ needed (codes "F") = search rules in
    let scans_is : rule_of c.required-3.result ≡ needed (codes "N") = search rules in
    let bare_is : app_of c.disable_help_flag.result ≡ bare (codes "three") = search rules in
    let one_is = c.in_ok-arg.ensures.shape (search rules) ∙ ap₂ with_rule bare_is number_is in
    let two_is = c.in_ok-arg-2.ensures.shape (search rules) ∙ ap₂ with_rule one_is first_is in
    let app_is : app_of c.in_ok-command.command ≡ three_app =
    c.in_ok-command.ensures.shape (search rules) ∙ ap₂ with_rule two_is scans_is in
    ap is_simple_and_free app_is

pub returns-in_default : goal.returns-in_default
returns-in_default c =
    let number_is : rule_of c.required.result ≡ needed (codes "K") = search rules in
    let first_is : rule_of c.required-2.result ≡ needed (codes "F") = search rules in
    let scans_is : rule_of c.required-3.result ≡ needed (codes "N") = search rules in
    let bare_is : app_of c.disable_help_flag.result ≡ bare (codes "three") = search rules in
    let one_is = c.in_ok-arg.ensures.shape (search rules) ∙ ap₂ with_rule bare_is number_is in
    let two_is = c.in_ok-arg-2.ensures.shape (search rules) ∙ ap₂ with_rule one_is first_is in
    let app_is : app_of c.in_ok-command.command ≡ three_app =
    c.in_ok-command.ensures.shape (search rules) ∙ ap₂ with_rule two_is scans_is in
    let words = map string_bytes c.args.words.now in
    λ three. (
      λ none. cc,
      λ asked.
          let passed = ap (λ a. fault_of a words) app_is
          ∙ three_pass words three.0 three.1 three.2
          (omega (arith, asked.1.to, c.ranges.most))
          (omega (arith, asked.2.to)) (omega (arith, asked.3.to)) asked.0 in
          let some = c.in_ok-matches.ensures.taken.1 passed in
          let none : false ≡ true = rw c.in_default.is at some in
          cc,
    )

pub returns : goal.returns
returns c =
    let number_is : rule_of c.required.result ≡ needed (codes "K") = search rules in
    let first_is : rule_of c.required-2.result ≡ needed (codes "F") = search rules in
    let scans_is : rule_of c.required-3.result ≡ needed (codes "N") = search rules in
    let bare_is : app_of c.disable_help_flag.result ≡ bare (codes "three") = search rules in
    let one_is = c.in_ok-arg.ensures.shape (search rules) ∙ ap₂ with_rule bare_is number_is in
    let two_is = c.in_ok-arg-2.ensures.shape (search rules) ∙ ap₂ with_rule one_is first_is in
    let app_is : app_of c.in_ok-command.command ≡ three_app =
    c.in_ok-command.ensures.shape (search rules) ∙ ap₂ with_rule two_is scans_is in
    let words = map string_bytes c.args.words.now in
    let found = found_of c.in-Some.matches in
    let passed : fault_of three_app words ≡ [] =
    ap (λ a. fault_of a words) (sym app_is)
    ∙ c.in_ok-matches.ensures.taken.0 (rw c.in-Some.is refl) in
    let rows : rows_of found ≡ matches_of three_app words =
    (rw c.in-Some.is at c.in_ok-matches.ensures.rows) ∙ ap (λ a. matches_of a words) app_is in
    let first : first_value found (codes "K")
    ≡ first_of (codes "K") (matches_of three_app words) =
    first_value-rows found (codes "K") ∙ ap (first_of (codes "K")) rows in
    let second : first_value found (codes "F")
    ≡ first_of (codes "F") (matches_of three_app words) =
    first_value-rows found (codes "F") ∙ ap (first_of (codes "F")) rows in
    let third : first_value found (codes "N")
    ≡ first_of (codes "N") (matches_of three_app words) =
    first_value-rows found (codes "N") ∙ ap (first_of (codes "N")) rows in
    λ three.
    let are = asked_three words passed (first_value found (codes "K"))
    (first_value found (codes "F")) (first_value found (codes "N")) first second third
    (decimal three.0) (decimal three.1) (decimal three.2) in (
      λ e.
          let got = (c.three_among.ensures three).0 e in (
            are.0 (record { one_is = got.0.0; two_is = got.1.0; three_is = got.2.0 }),
            got.0.1,
            got.1.1,
            got.2.1,
          ),
      λ asked.
          let got = are.1 asked.0 in
          (c.three_among.ensures three).1
          ((got.one_is, asked.1), (got.two_is, asked.2), (got.three_is, asked.3)),
    )
