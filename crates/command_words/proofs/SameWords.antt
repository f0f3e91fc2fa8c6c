-- What `clap` makes of the words that ask whether two controllers do the same.
use Rattle.std.proofs.Common.{◌≡◌, ◌∙◌, ℕ, ◌^◌, ◌<◌, true, ◌↔◌, refl, ap, sym}
use Rattle.std.proofs.Common.{List, [], ◌∷◌, map, Option, Some, None, arith}
use Rattle.std.specs.Prelude.{codes, option_map, option_to_list, unwrap_or}
use Rattle.std.specs.Fmt.{decimal}
use Rattle.std.specs.List.{list_all}
use Rattle.clap.specs.Walk.{Text, first_of}
use Rattle.clap.specs.Simple.{App, matches_of, new_rule, with_rule}
use Rattle.clap.specs.Faults.{fault_of}
use Rattle.clap.proofs.OnLiterals.{clap_on_literals}
use Rattle.command_words.specs.Nevers.{IsDepth}
use Rattle.command_words.specs.Words.{ReadsJust, without_dashes}
use Rattle.command_words.proofs.OneNumber.{bare, decimal_is_plain, needed}
use Rattle.command_words.proofs.Positionals.{IsPositional, fault_after_dashes, is_plain}
use Rattle.command_words.proofs.Positionals.{matches_after}
use Rattle.command_words.proofs.Positionals.{passes_after}

abbrev pub same_app : App
same_app = with_rule (with_rule (bare (codes "same")) (needed (codes "K"))) (new_rule (codes "D"))

same_positional : IsPositional same_app
same_positional = record { bare = refl; alone = refl; places = refl }

-- what passes has a word and perhaps another, and the matches have them
pub record Passed (words : List Text) : Type 0 where
  pub one : Text
  pub last : Option Text
  pub all : without_dashes words ≡ one ∷ option_to_list last
  pub first : first_of (codes "K") (matches_of same_app words) ≡ Some one
  pub second : first_of (codes "D") (matches_of same_app words) ≡ last

-- the matches of words after `--`
abbrev matches_behind : List Text → Text → Option Text
matches_behind left name = first_of name (matches_of same_app (codes "--" ∷ left))

pub same_passed : (words : List Text) → fault_of same_app words ≡ [] → Passed words
unfolding clap_on_literals
same_passed words passed =
    go (without_dashes words) refl (passes_after same_app words same_positional passed)
    (ap (first_of (codes "K")) (matches_after same_app words same_positional))
    (ap (first_of (codes "D")) (matches_after same_app words same_positional))
  where
    go : (left : List Text) → without_dashes words ≡ left
        → fault_of same_app (codes "--" ∷ without_dashes words) ≡ []
        → first_of (codes "K") (matches_of same_app words)
        ≡ matches_behind (without_dashes words) (codes "K")
        → first_of (codes "D") (matches_of same_app words)
        ≡ matches_behind (without_dashes words) (codes "D")
        → Passed words
    go [] same none first second = absurd (cc (rw same at none))
    go (one ∷ []) same none first second = record {
      one = one;
      last = None;
      all = same;
      first = first ∙ ap (λ left. matches_behind left (codes "K")) same;
      second = second ∙ ap (λ left. matches_behind left (codes "D")) same;
    }
    go (one ∷ two ∷ []) same none first second = record {
      one = one;
      last = Some two;
      all = same;
      first = first ∙ ap (λ left. matches_behind left (codes "K")) same;
      second = second ∙ ap (λ left. matches_behind left (codes "D")) same;
    }
    go (one ∷ two ∷ more ∷ rest) same none first second = absurd (cc (rw same at none))

-- values that were found: a node, and a depth or none
pub record AreFound (first second : Option Text) (node : ℕ) (depth : Option ℕ) : Type 0 where
  pub node_is : first ≡ Some (decimal node)
  pub depth_is : second ≡ option_map decimal depth

-- so the values that were found are the words alone
pub same_are : (words : List Text) → fault_of same_app words ≡ []
    → (first second : Option Text)
    → first ≡ first_of (codes "K") (matches_of same_app words)
    → second ≡ first_of (codes "D") (matches_of same_app words)
    → (node : ℕ) (depth : Option ℕ)
    → AreFound first second node depth
    ↔ (without_dashes words ≡ decimal node ∷ map decimal (option_to_list depth))
same_are words passed first second first_is second_is node depth =
    let got = same_passed words passed in (
      λ found. got.all ∙ ap (λ a. a ∷ option_to_list got.last)
          (some_is got.one (decimal node) (sym got.first ∙ sym first_is ∙ found.node_is))
          ∙ ap (λ rest. decimal node ∷ rest)
          (ap option_to_list (sym got.second ∙ sym second_is ∙ found.depth_is) ∙ to-list depth),
      λ e.
          let same : got.one ∷ option_to_list got.last
          ≡ decimal node ∷ map decimal (option_to_list depth) = sym got.all ∙ e in
          record {
            node_is = first_is ∙ got.first ∙ ap (λ w. Some w) (first_same same);
            depth_is = second_is ∙ got.second ∙ of-list got.last depth (rest_same same);
          },
    )
  where
    some_is : (a b : Text) → Some a ≡ Some b → a ≡ b
    some_is a b e = cc

    to-list : (o : Option ℕ) → option_to_list (option_map decimal o) ≡ map decimal (option_to_list o)
    to-list None = refl
    to-list (Some n) = refl

    of-list : (last : Option Text) (o : Option ℕ)
        → option_to_list last ≡ map decimal (option_to_list o) → last ≡ option_map decimal o
    of-list None None e = refl
    of-list None (Some n) e = absurd (cc)
    of-list (Some w) None e = absurd (cc)
    of-list (Some w) (Some n) e = cc

    first_same : {a b : Text} {xs ys : List Text} → a ∷ xs ≡ b ∷ ys → a ≡ b
    first_same e = cc

    rest_same : {a b : Text} {xs ys : List Text} → a ∷ xs ≡ b ∷ ys → xs ≡ ys
    rest_same e = cc

-- a node and a depth alone pass
pub same_pass : (words : List Text) (node : ℕ) (depth : Option ℕ)
    → node < 2 ^ 64 → IsDepth depth
    → without_dashes words ≡ decimal node ∷ map decimal (option_to_list depth)
    → fault_of same_app words ≡ []
unfolding clap_on_literals
same_pass words node None small few are =
    let clear : list_all is_plain (without_dashes words) ≡ true =
    rw (are, decimal_is_plain node small) refl in
    fault_after_dashes same_app words same_positional clear
    ∙ ap (λ left. fault_of same_app (codes "--" ∷ left)) are
same_pass words node (Some depth) small few are =
    let less : depth < 2 ^ 64 = omega (arith, few.to) in
    let clear : list_all is_plain (without_dashes words) ≡ true =
    rw (are, decimal_is_plain node small, decimal_is_plain depth less) refl in
    fault_after_dashes same_app words same_positional clear
    ∙ ap (λ left. fault_of same_app (codes "--" ∷ left)) are

-- ---- two values

abbrev pub both_of : {A B : Type 0} → Option A → Option B → Option (A × B)
both_of None two = None
both_of (Some a) None = None
both_of (Some a) (Some b) = Some (a, b)

both-are : {A B : Type 0} (one : Option A) (two : Option B) (a : A) (b : B)
    → both_of one two ≡ Some (a, b) → (one ≡ Some a) × (two ≡ Some b)
both-are None two a b e = absurd (cc)
both-are (Some x) None a b e = absurd (cc)
both-are {A = A} {B = B} (Some x) (Some y) a b e = (
  ap (λ (o : Option (A × B)). Some (unwrap_or o (x, y)).0) e,
  ap (λ (o : Option (A × B)). Some (unwrap_or o (x, y)).1) e,
)

-- what is read in two parts is both
pub Two-read : {A B : Type 0} (IsOne : A → Type 0) (IsTwo : B → Type 0)
    (one : Option A) (two : Option B) → ReadsJust IsOne one → ReadsJust IsTwo two
    → ReadsJust (λ (both : A × B). IsOne both.0 × IsTwo both.1) (both_of one two)
Two-read IsOne IsTwo one two reads_one reads_two (a, b) = (
  λ e.
      let are = both-are one two a b e in
      ((reads_one a).0 are.0, (reads_two b).0 are.1),
  λ asked.
      ap (λ o. both_of o two) ((reads_one a).1 asked.0)
      ∙ ap (both_of (Some a)) ((reads_two b).1 asked.1),
)
