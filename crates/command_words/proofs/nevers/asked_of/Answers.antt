use Rattle.std.proofs.Common.{rules, ◌≡◌, ◌∙◌, ℕ, ap, ap₂, refl, sym, codes}
use Rattle.std.proofs.Common.{map, string_bytes, arith}
use Rattle.std.specs.Prelude.{[], List, false, true}
use Rattle.clap.specs.Words.{app_of, fault_of, first_of, first_value, found_of, rule_of}
use Rattle.clap.specs.Words.{is_simple_and_free, matches_of, rows_of, with_rule}
use Rattle.clap.specs.Simple.{new_rule}
use Rattle.clap.proofs.WalkLemmas.{first_value-rows}
use Rattle.command_words.proofs.OneNumber.{bare, needed}
use Rattle.command_words.proofs.NeverWords.{asked_app, asked_are, asked_pass, depth-found}
use Rattle.command_words.proofs.nevers.asked_of.Goals as goal

pub matches_of-requires : goal.matches_of-requires
matches_of-requires c =
    let node_is : rule_of c.required.result ≡ needed (codes "K") = search rules in
    let word_is : rule_of c.required-2.result ≡ needed (codes "REF") = search rules in
    let depth_is : rule_of c.new-4.result ≡ new_rule (codes "D") = search rules in
    let bare_is : app_of c.disable_help_flag.result ≡ bare (codes "asked") = search rules in
    let one_is = c.in_ok-arg.ensures.shape (search rules) ∙ ap₂ with_rule bare_is node_is in
    let two_is = c.in_ok-arg-2.ensures.shape (search rules) ∙ ap₂ with_rule one_is word_is in
    let app_is : app_of c.in_ok-command.command ≡ asked_app =
    c.in_ok-command.ensures.shape (search rules) ∙ ap₂ with_rule two_is depth_is in
    ap is_simple_and_free app_is

pub returns-in_default : goal.returns-in_default
returns-in_default c =
    let node_is : rule_of c.required.result ≡ needed (codes "K") = search rules in
    let word_is : rule_of c.required-2.result ≡ needed (codes "REF") = search rules in
    let depth_is : rule_of c.new-4.result ≡ new_rule (codes "D") = search rules in
    let bare_is : app_of c.disable_help_flag.result ≡ bare (codes "asked") = search rules in
    let one_is = c.in_ok-arg.ensures.shape (search rules) ∙ ap₂ with_rule bare_is node_is in
    let two_is = c.in_ok-arg-2.ensures.shape (search rules) ∙ ap₂ with_rule one_is word_is in
    let app_is : app_of c.in_ok-command.command ≡ asked_app =
    c.in_ok-command.ensures.shape (search rules) ∙ ap₂ with_rule two_is depth_is in
    let words = map string_bytes c.args.words.now in
    λ three. (
      λ none. cc,
      λ asked.
          let passed = ap (λ a. fault_of a words) app_is
          ∙ asked_pass words three.0 three.1 three.2 (omega (arith, asked.1.to)) asked.2 asked.0 in
          let some = c.in_ok-matches.ensures.taken.1 passed in
          let none : false ≡ true = rw c.in_default.is at some in
          cc,
    )

pub returns : goal.returns
returns c =
    let node_is : rule_of c.required.result ≡ needed (codes "K") = search rules in
    let word_is : rule_of c.required-2.result ≡ needed (codes "REF") = search rules in
    let depth_is : rule_of c.new-4.result ≡ new_rule (codes "D") = search rules in
    let bare_is : app_of c.disable_help_flag.result ≡ bare (codes "asked") = search rules in
    let one_is = c.in_ok-arg.ensures.shape (search rules) ∙ ap₂ with_rule bare_is node_is in
    let two_is = c.in_ok-arg-2.ensures.shape (search rules) ∙ ap₂ with_rule one_is word_is in
    let app_is : app_of c.in_ok-command.command ≡ asked_app =
    c.in_ok-command.ensures.shape (search rules) ∙ ap₂ with_rule two_is depth_is in
    let words = map string_bytes c.args.words.now in
    let found = found_of c.in-Some.matches in
    let passed : fault_of asked_app words ≡ [] =
    ap (λ a. fault_of a words) (sym app_is)
    ∙ c.in_ok-matches.ensures.taken.0 (rw c.in-Some.is refl) in
    let rows : rows_of found ≡ matches_of asked_app words =
    (rw c.in-Some.is at c.in_ok-matches.ensures.rows) ∙ ap (λ a. matches_of a words) app_is in
    let first : first_value found (codes "K")
    ≡ first_of (codes "K") (matches_of asked_app words) =
    first_value-rows found (codes "K") ∙ ap (first_of (codes "K")) rows in
    let second : first_value found (codes "REF")
    ≡ first_of (codes "REF") (matches_of asked_app words) =
    first_value-rows found (codes "REF") ∙ ap (first_of (codes "REF")) rows in
    let third : first_value found (codes "D")
    ≡ first_of (codes "D") (matches_of asked_app words) =
    first_value-rows found (codes "D") ∙ ap (first_of (codes "D")) rows in
    λ three.
    let are = λ (word : List ℕ). asked_are words passed (first_value found (codes "K"))
    (first_value found (codes "REF")) (first_value found (codes "D")) first second third
    three.0 word three.2 in
    let depth = depth-found c.in-Some.matches three.2 in (
      λ e.
          let got = (c.asked_among.ensures three).0 e in
          let at = depth.0 got.2 in (
            record {
              word = got.1.word;
              are = (are got.1.word).0 (record {
                node_is = got.0.0;
                word_is = got.1.there;
                depth_is = at.0;
              });
              asks = got.1.asks;
            },
            got.0.1,
            at.1,
          ),
      λ asked.
          let got = (are asked.0.word).1 asked.0.are in
          (c.asked_among.ensures three).1 (
            (got.node_is, asked.1),
            record { word = asked.0.word; there = got.word_is; asks = asked.0.asks },
            depth.1 (got.depth_is, asked.2),
          ),
    )
