-- What `clap` makes of three words behind a command word.
use Rattle.std.proofs.Common.{◌≡◌, ◌∙◌, ℕ, ◌^◌, ◌<◌, true, ◌↔◌, refl, ap, sym, List, [], ◌∷◌}
use Rattle.std.proofs.Common.{Option, Some, None}
use Rattle.std.specs.Prelude.{codes, unwrap_or}
use Rattle.std.specs.Fmt.{decimal}
use Rattle.std.specs.List.{list_all}
use Rattle.clap.specs.Walk.{Text, first_of}
use Rattle.clap.specs.Simple.{App, matches_of, with_rule}
use Rattle.clap.specs.Faults.{fault_of}
use Rattle.clap.proofs.OnLiterals.{clap_on_literals}
use Rattle.command_words.specs.Words.{ReadsJust, without_dashes}
use Rattle.command_words.proofs.OneNumber.{bare, decimal_is_plain, needed}
use Rattle.command_words.proofs.Positionals.{IsPositional, fault_after_dashes, is_plain}
use Rattle.command_words.proofs.Positionals.{matches_after}
use Rattle.command_words.proofs.Positionals.{passes_after}

abbrev pub three_app : App
three_app = with_rule
    (with_rule (with_rule (bare (codes "three")) (needed (codes "K"))) (needed (codes "F")))
    (needed (codes "N"))

three_positional : IsPositional three_app
three_positional = record { bare = refl; alone = refl; places = refl }

-- what passes has three words, and the matches have them
pub record Passed (words : List Text) : Type 0 where
  pub one : Text
  pub two : Text
  pub three : Text
  pub all : without_dashes words ≡ one ∷ two ∷ three ∷ []
  pub first : first_of (codes "K") (matches_of three_app words) ≡ Some one
  pub second : first_of (codes "F") (matches_of three_app words) ≡ Some two
  pub third : first_of (codes "N") (matches_of three_app words) ≡ Some three

-- the matches of words after `--`
abbrev matches_behind : List Text → Text → Option Text
matches_behind left name = first_of name (matches_of three_app (codes "--" ∷ left))

pub three_passed : (words : List Text) → fault_of three_app words ≡ [] → Passed words
unfolding clap_on_literals
three_passed words passed =
    go (without_dashes words) refl (passes_after three_app words three_positional passed)
    (ap (first_of (codes "K")) (matches_after three_app words three_positional))
    (ap (first_of (codes "F")) (matches_after three_app words three_positional))
    (ap (first_of (codes "N")) (matches_after three_app words three_positional))
  where
    go : (left : List Text) → without_dashes words ≡ left
        → fault_of three_app (codes "--" ∷ without_dashes words) ≡ []
        → first_of (codes "K") (matches_of three_app words)
        ≡ matches_behind (without_dashes words) (codes "K")
        → first_of (codes "F") (matches_of three_app words)
        ≡ matches_behind (without_dashes words) (codes "F")
        → first_of (codes "N") (matches_of three_app words)
        ≡ matches_behind (without_dashes words) (codes "N")
        → Passed words
    go [] same none first second third = absurd (cc (rw same at none))
    go (one ∷ []) same none first second third = absurd (cc (rw same at none))
    go (one ∷ two ∷ []) same none first second third = absurd (cc (rw same at none))
    go (one ∷ two ∷ three ∷ []) same none first second third = record {
      one = one;
      two = two;
      three = three;
      all = same;
      first = first ∙ ap (λ left. matches_behind left (codes "K")) same;
      second = second ∙ ap (λ left. matches_behind left (codes "F")) same;
      third = third ∙ ap (λ left. matches_behind left (codes "N")) same;
    }
    go (one ∷ two ∷ three ∷ more ∷ rest) same none first second third =
        absurd (cc (rw same at none))

-- three values that were found
pub record AreFound (first second third : Option Text) (one two three : Text) : Type 0 where
  pub one_is : first ≡ Some one
  pub two_is : second ≡ Some two
  pub three_is : third ≡ Some three

-- so the values that were found are the three words alone
pub asked_three : (words : List Text) → fault_of three_app words ≡ []
    → (first second third : Option Text)
    → first ≡ first_of (codes "K") (matches_of three_app words)
    → second ≡ first_of (codes "F") (matches_of three_app words)
    → third ≡ first_of (codes "N") (matches_of three_app words)
    → (one two three : Text)
    → AreFound first second third one two three
    ↔ (without_dashes words ≡ one ∷ two ∷ three ∷ [])
asked_three words passed first second third first_is second_is third_is one two three =
    let got = three_passed words passed in (
      λ found. got.all ∙ ap (λ a. a ∷ got.two ∷ got.three ∷ [])
          (some_is got.one one (sym got.first ∙ sym first_is ∙ found.one_is))
          ∙ ap (λ b. one ∷ b ∷ got.three ∷ [])
          (some_is got.two two (sym got.second ∙ sym second_is ∙ found.two_is))
          ∙ ap (λ c. one ∷ two ∷ c ∷ [])
          (some_is got.three three (sym got.third ∙ sym third_is ∙ found.three_is)),
      λ e.
          let same : got.one ∷ got.two ∷ got.three ∷ [] ≡ one ∷ two ∷ three ∷ [] =
          sym got.all ∙ e in
          record {
            one_is = first_is ∙ got.first ∙ ap (λ w. Some w) (first_same same);
            two_is = second_is ∙ got.second ∙ ap (λ w. Some w) (second_same same);
            three_is = third_is ∙ got.third ∙ ap (λ w. Some w) (third_same same);
          },
    )
  where
    some_is : (a b : Text) → Some a ≡ Some b → a ≡ b
    some_is a b e = cc

    first_same : {a b c d e f : Text} → a ∷ b ∷ c ∷ [] ≡ d ∷ e ∷ f ∷ [] → a ≡ d
    first_same e = cc

    second_same : {a b c d e f : Text} → a ∷ b ∷ c ∷ [] ≡ d ∷ e ∷ f ∷ [] → b ≡ e
    second_same e = cc

    third_same : {a b c d e f : Text} → a ∷ b ∷ c ∷ [] ≡ d ∷ e ∷ f ∷ [] → c ≡ f
    third_same e = cc

-- three numbers alone pass
pub three_pass : (words : List Text) (number first scans : ℕ) → number < 2 ^ 64 → first < 2 ^ 64
    → scans < 2 ^ 64
    → without_dashes words ≡ decimal number ∷ decimal first ∷ decimal scans ∷ []
    → fault_of three_app words ≡ []
unfolding clap_on_literals
three_pass words number first scans small few less same =
    let clear : list_all is_plain (without_dashes words) ≡ true =
    rw (
      same,
      decimal_is_plain number small,
      decimal_is_plain first few,
      decimal_is_plain scans less,
    ) refl in
    fault_after_dashes three_app words three_positional clear
    ∙ ap (λ left. fault_of three_app (codes "--" ∷ left)) same

-- ---- three values

abbrev pub all_three : {A B C : Type 0} → Option A → Option B → Option C → Option (A × B × C)
all_three None two three = None
all_three (Some a) None three = None
all_three (Some a) (Some b) None = None
all_three (Some a) (Some b) (Some c) = Some (a, b, c)

-- all three were read
record AllRead {A B C : Type 0} (one : Option A) (two : Option B) (three : Option C) (a : A)
    (b : B) (c : C) : Type 0 where
  first : one ≡ Some a
  second : two ≡ Some b
  third : three ≡ Some c

three-are : {A B C : Type 0} (one : Option A) (two : Option B) (three : Option C) (a : A) (b : B)
    (c : C) → all_three one two three ≡ Some (a, b, c) → AllRead one two three a b c
three-are None two three a b c e = absurd (cc)
three-are (Some x) None three a b c e = absurd (cc)
three-are (Some x) (Some y) None a b c e = absurd (cc)
three-are {A = A} {B = B} {C = C} (Some x) (Some y) (Some z) a b c e = record {
  first = ap (λ (o : Option (A × B × C)). Some (unwrap_or o (x, y, z)).0) e;
  second = ap (λ (o : Option (A × B × C)). Some (unwrap_or o (x, y, z)).1) e;
  third = ap (λ (o : Option (A × B × C)). Some (unwrap_or o (x, y, z)).2) e;
}

-- what is read in three parts is all three
pub Three-read : {A B C : Type 0} (IsOne : A → Type 0) (IsTwo : B → Type 0) (IsThree : C → Type 0)
    (one : Option A) (two : Option B) (three : Option C) → ReadsJust IsOne one
    → ReadsJust IsTwo two → ReadsJust IsThree three
    → ReadsJust (λ (all : A × B × C). IsOne all.0 × IsTwo all.1 × IsThree all.2)
    (all_three one two three)
Three-read IsOne IsTwo IsThree one two three reads_one reads_two reads_three (a, b, c) = (
  λ e.
      let are = three-are one two three a b c e in
      ((reads_one a).0 are.first, (reads_two b).0 are.second, (reads_three c).0 are.third),
  λ asked.
      ap (λ o. all_three o two three) ((reads_one a).1 asked.0)
      ∙ ap (λ o. all_three (Some a) o three) ((reads_two b).1 asked.1)
      ∙ ap (all_three (Some a) (Some b)) ((reads_three c).1 asked.2),
)
