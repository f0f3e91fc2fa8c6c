-- What `clap` makes of two words behind a command word.
use Rattle.std.proofs.Common.{◌≡◌, ◌∙◌, ℕ, ◌^◌, ◌<◌, true, ◌↔◌, refl, ap, ap₂, sym, List, [], ◌∷◌}
use Rattle.std.proofs.Common.{Option, Some, None}
use Rattle.std.specs.Prelude.{codes, unwrap_or}
use Rattle.std.specs.Fmt.{decimal}
use Rattle.std.specs.List.{list_all}
use Rattle.clap.specs.Walk.{Text, first_of}
use Rattle.clap.specs.Simple.{App, matches_of, with_rule}
use Rattle.clap.specs.Faults.{fault_of}
use Rattle.clap.proofs.OnLiterals.{clap_on_literals}
use Rattle.plant_types.specs.Plans.{IsFromTo}
use Rattle.command_words.specs.Words.{ReadsJust, without_dashes}
use Rattle.command_words.proofs.OneNumber.{bare, decimal_is_plain, needed}
use Rattle.command_words.proofs.Positionals.{IsPositional, fault_after_dashes, is_plain}
use Rattle.command_words.proofs.Positionals.{matches_after}
use Rattle.command_words.proofs.Positionals.{passes_after}

abbrev pub numbers_app : App
numbers_app =
    with_rule (with_rule (bare (codes "numbers")) (needed (codes "K"))) (needed (codes "N"))

numbers_positional : IsPositional numbers_app
numbers_positional = record { bare = refl; alone = refl; places = refl }

-- what passes has two words, and the matches have them
pub record Passed (words : List Text) : Type 0 where
  pub one : Text
  pub other : Text
  pub both : without_dashes words ≡ one ∷ other ∷ []
  pub first : first_of (codes "K") (matches_of numbers_app words) ≡ Some one
  pub second : first_of (codes "N") (matches_of numbers_app words) ≡ Some other

-- the matches of words after `--`
abbrev matches_behind : List Text → Text → Option Text
matches_behind left name = first_of name (matches_of numbers_app (codes "--" ∷ left))

pub numbers_passed : (words : List Text) → fault_of numbers_app words ≡ [] → Passed words
unfolding clap_on_literals
numbers_passed words passed =
    go (without_dashes words) refl (passes_after numbers_app words numbers_positional passed)
    (ap (first_of (codes "K")) (matches_after numbers_app words numbers_positional))
    (ap (first_of (codes "N")) (matches_after numbers_app words numbers_positional))
  where
    go : (left : List Text) → without_dashes words ≡ left
        → fault_of numbers_app (codes "--" ∷ without_dashes words) ≡ []
        → first_of (codes "K") (matches_of numbers_app words)
        ≡ matches_behind (without_dashes words) (codes "K")
        → first_of (codes "N") (matches_of numbers_app words)
        ≡ matches_behind (without_dashes words) (codes "N")
        → Passed words
    go [] same none first second = absurd (cc (rw same at none))
    go (one ∷ []) same none first second = absurd (cc (rw same at none))
    go (one ∷ other ∷ []) same none first second = record {
      one = one;
      other = other;
      both = same;
      first = first ∙ ap (λ left. matches_behind left (codes "K")) same;
      second = second ∙ ap (λ left. matches_behind left (codes "N")) same;
    }
    go (one ∷ other ∷ more ∷ rest) same none first second = absurd (cc (rw same at none))

-- so the values that were found are the two words alone
pub asked_are : (words : List Text) → fault_of numbers_app words ≡ [] → (first second : Option Text)
    → first ≡ first_of (codes "K") (matches_of numbers_app words)
    → second ≡ first_of (codes "N") (matches_of numbers_app words)
    → (one other : Text)
    → ((first ≡ Some one) × (second ≡ Some other)) ↔ (without_dashes words ≡ one ∷ other ∷ [])
asked_are words passed first second first_is second_is one other =
    let two = numbers_passed words passed in (
      λ e. two.both
          ∙ ap₂ (λ a b. a ∷ b ∷ []) (some_is two.one one (sym two.first ∙ sym first_is ∙ e.0))
          (some_is two.other other (sym two.second ∙ sym second_is ∙ e.1)),
      λ e.
          let same : two.one ∷ two.other ∷ [] ≡ one ∷ other ∷ [] = sym two.both ∙ e in (
            first_is ∙ two.first ∙ ap (λ w. Some w) (first_same same),
            second_is ∙ two.second ∙ ap (λ w. Some w) (second_same same),
          ),
    )
  where
    some_is : (a b : Text) → Some a ≡ Some b → a ≡ b
    some_is a b e = cc

    first_same : {a b c d : Text} → a ∷ c ∷ [] ≡ b ∷ d ∷ [] → a ≡ b
    first_same e = cc

    second_same : {a b c d : Text} → a ∷ c ∷ [] ≡ b ∷ d ∷ [] → c ≡ d
    second_same e = cc

-- two numbers alone pass
pub numbers_pass : (words : List Text) (number scans : ℕ) → number < 2 ^ 64 → scans < 2 ^ 64
    → without_dashes words ≡ decimal number ∷ decimal scans ∷ [] → fault_of numbers_app words ≡ []
unfolding clap_on_literals
numbers_pass words number scans small few same =
    let clear : list_all is_plain (without_dashes words) ≡ true =
    rw (same, decimal_is_plain number small, decimal_is_plain scans few) refl in
    fault_after_dashes numbers_app words numbers_positional clear
    ∙ ap (λ left. fault_of numbers_app (codes "--" ∷ left)) same

-- ---- two values

-- a number was read of a value
abbrev pub IsNumeralOf : Option Text → ℕ → ℕ → Type 0
IsNumeralOf value most number = (value ≡ Some (decimal number)) × IsFromTo 1 most number

-- two numbers were read of two values
abbrev pub AreNumeralsOf : Option Text → ℕ → Option Text → ℕ → ℕ × ℕ → Type 0
AreNumeralsOf first most second limit both =
    IsNumeralOf first most both.0 × IsNumeralOf second limit both.1

abbrev pub both : Option ℕ → Option ℕ → Option (ℕ × ℕ)
both None other = None
both (Some number) None = None
both (Some number) (Some scans) = Some (number, scans)

both-are : (one other : Option ℕ) (number scans : ℕ) → both one other ≡ Some (number, scans)
    → (one ≡ Some number) × (other ≡ Some scans)
both-are None other number scans e = absurd (cc)
both-are (Some k) None number scans e = absurd (cc)
both-are (Some k) (Some n) number scans e = (
  ap (λ (o : Option (ℕ × ℕ)). Some (unwrap_or o (0, 0)).0) e,
  ap (λ (o : Option (ℕ × ℕ)). Some (unwrap_or o (0, 0)).1) e,
)

-- so are two
pub Both-read : (one other : Option ℕ) (first second : Option Text) (most limit : ℕ)
    → ReadsJust (IsNumeralOf first most) one → ReadsJust (IsNumeralOf second limit) other
    → ReadsJust (AreNumeralsOf first most second limit) (both one other)
Both-read one other first second most limit reads_one reads_other (number, scans) = (
  λ e.
      let are = both-are one other number scans e in
      ((reads_one number).0 are.0, (reads_other scans).0 are.1),
  λ asked.
      ap (λ o. both o other) ((reads_one number).1 asked.0)
      ∙ ap (both (Some number)) ((reads_other scans).1 asked.1),
)
