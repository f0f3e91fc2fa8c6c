-- What `clap` makes of the words behind a command word.
use Rattle.std.proofs.Common.{◌≡◌, ◌∙◌, ℕ, ◌+◌, ◌^◌, ◌≤◌, ◌<◌, ◌%◌, true, ◌↔◌}
use Rattle.std.proofs.Common.{refl, ap, sym, arith, List, [], ◌∷◌, ◌++◌}
use Rattle.std.proofs.Common.{Option, Some}
use Rattle.std.specs.Prelude.{codes}
use Rattle.std.specs.Fmt.{decimal}
use Rattle.std.specs.List.{list_all}
use Rattle.std.proofs.lemmas.Bool.Decides.{nat_tests}
use Rattle.std.proofs.lemmas.Fmt.{decimal_by_steps}
use Rattle.clap.specs.Walk.{Rule, Text, first_of}
use Rattle.clap.specs.Simple.{App, matches_of, new_app, new_rule, on_top, with_rule}
use Rattle.clap.specs.Faults.{fault_of}
use Rattle.clap.proofs.OnLiterals.{clap_on_literals}
use Rattle.command_words.specs.Words.{without_dashes}
use Rattle.command_words.proofs.Positionals.{IsPositional, fault_after_dashes, is_plain}
use Rattle.command_words.proofs.Positionals.{matches_after}
use Rattle.command_words.proofs.Positionals.{passes_after}

-- a command of which a word is no program's name, and that has no help
abbrev pub bare : Text → App
bare name = on_top (λ s. record s { no_binary_name = true; disable_help_flag = true })
    (new_app name)

abbrev pub needed : Text → Rule
needed id = record (new_rule id) { required = true }

-- a number is no flag
digit_is_plain : (n : ℕ) → n < 10 → is_plain ((48 + n) ∷ []) ≡ true
digit_is_plain n h = grind (arith, nat_tests)

longer_is_plain : (n : ℕ) (ds : List ℕ) → 10 ≤ n → is_plain ds ≡ true
    → is_plain (ds ++ ((48 + n % 10) ∷ [])) ≡ true
longer_is_plain n [] h plain = grind (arith, nat_tests)
longer_is_plain n (d ∷ ds) h plain = plain

pub decimal_is_plain : (n : ℕ) → n < 2 ^ 64 → is_plain (decimal n) ≡ true
decimal_is_plain = decimal_by_steps (λ n ds. is_plain ds ≡ true) digit_is_plain longer_is_plain

-- ---- one number

abbrev pub scans_app : App
scans_app = with_rule (bare (codes "scans")) (needed (codes "N"))

scans_positional : IsPositional scans_app
scans_positional = record { bare = refl; alone = refl; places = refl }

-- what passes has one word, and the matches have it
pub scans_passed : (words : List Text) → fault_of scans_app words ≡ []
    → (word : Text) × (without_dashes words ≡ word ∷ [])
    × (first_of (codes "N") (matches_of scans_app words) ≡ Some word)
unfolding clap_on_literals
scans_passed words passed =
    go (without_dashes words) refl (passes_after scans_app words scans_positional passed)
    (ap (first_of (codes "N")) (matches_after scans_app words scans_positional))
  where
    go : (left : List Text) → without_dashes words ≡ left
        → fault_of scans_app (codes "--" ∷ without_dashes words) ≡ []
        → first_of (codes "N") (matches_of scans_app words)
        ≡ first_of (codes "N") (matches_of scans_app (codes "--" ∷ without_dashes words))
        → (word : Text) × (without_dashes words ≡ word ∷ [])
        × (first_of (codes "N") (matches_of scans_app words) ≡ Some word)
    go [] same none found = absurd (cc (rw same at none))
    go (word ∷ []) same none found = (
      word,
      same,
      found ∙ ap (λ left. first_of (codes "N") (matches_of scans_app (codes "--" ∷ left))) same,
    )
    go (word ∷ more ∷ rest) same none found = absurd (cc (rw same at none))

-- so the value that was found is the word alone
pub asked_is : (words : List Text) → fault_of scans_app words ≡ [] → (value : Option Text)
    → value ≡ first_of (codes "N") (matches_of scans_app words)
    → (word : Text) → (value ≡ Some word) ↔ (without_dashes words ≡ word ∷ [])
asked_is words passed value is word =
    let one = scans_passed words passed in (
      λ e. one.1 ∙ ap (λ w. w ∷ []) (some_is one.0 word (sym one.2 ∙ sym is ∙ e)),
      λ e. is ∙ one.2 ∙ ap (λ w. Some w) (only_is one.0 word (sym one.1 ∙ e)),
    )
  where
    some_is : (a b : Text) → Some a ≡ Some b → a ≡ b
    some_is a b e = cc

    only_is : (a b : Text) → a ∷ [] ≡ b ∷ [] → a ≡ b
    only_is a b e = cc

-- a number alone passes
pub scans_pass : (words : List Text) (scans : ℕ) → scans < 2 ^ 64
    → without_dashes words ≡ decimal scans ∷ []
    → fault_of scans_app words ≡ []
unfolding clap_on_literals
scans_pass words scans small same =
    let clear : list_all is_plain (without_dashes words) ≡ true =
    rw (same, decimal_is_plain scans small) refl in
    fault_after_dashes scans_app words scans_positional clear
    ∙ ap (λ left. fault_of scans_app (codes "--" ∷ left)) same
