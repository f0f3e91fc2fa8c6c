-- What `clap` makes of the words that ask what a controller never comes to.
use Rattle.std.proofs.Common.{◌≡◌, ◌∙◌, ℕ, ◌^◌, ◌<◌, Bool, true, false, ◌↔◌, refl, ap, sym}
use Rattle.std.proofs.Common.{List, [], ◌∷◌, map, Option, Some, None, arith}
use Rattle.std.specs.Prelude.{◌==◌, codes, option_map}
use Rattle.std.specs.Prelude.{option_to_list}
use Rattle.std.specs.Fmt.{decimal}
use Rattle.std.specs.List.{list_all}
use Rattle.std.proofs.lemmas.Bool.{eqb-true}
use Rattle.clap.specs.Walk.{Text, first_of}
use Rattle.clap.specs.Simple.{App, matches_of, new_rule, with_rule}
use Rattle.clap.specs.Faults.{fault_of}
use Rattle.clap.specs.Words.{first_value, found_of}
use Rattle.clap.specs.declared.parser.matches.ArgMatches.{ArgMatches}
use Rattle.clap.proofs.OnLiterals.{clap_on_literals}
use Rattle.command_words.specs.declared.words.Question.{Question}
use Rattle.command_words.specs.Arguments.{HasDepth}
use Rattle.command_words.specs.Nevers.{AreAsked, IsDepth, question_of}
use Rattle.command_words.specs.Words.{without_dashes}
use Rattle.command_words.proofs.OneNumber.{bare, decimal_is_plain, needed}
use Rattle.command_words.proofs.Positionals.{IsPositional, fault_after_dashes, is_plain}
use Rattle.command_words.proofs.Positionals.{matches_after}
use Rattle.command_words.proofs.Positionals.{passes_after}

abbrev pub asked_app : App
asked_app = with_rule
    (with_rule (with_rule (bare (codes "asked")) (needed (codes "K"))) (needed (codes "REF")))
    (new_rule (codes "D"))

asked_positional : IsPositional asked_app
asked_positional = record { bare = refl; alone = refl; places = refl }

-- what passes has two words and perhaps a third, and the matches have them
pub record Passed (words : List Text) : Type 0 where
  pub one : Text
  pub two : Text
  pub last : Option Text
  pub all : without_dashes words ≡ one ∷ two ∷ option_to_list last
  pub first : first_of (codes "K") (matches_of asked_app words) ≡ Some one
  pub second : first_of (codes "REF") (matches_of asked_app words) ≡ Some two
  pub third : first_of (codes "D") (matches_of asked_app words) ≡ last

-- the matches of words after `--`
abbrev matches_behind : List Text → Text → Option Text
matches_behind left name = first_of name (matches_of asked_app (codes "--" ∷ left))

pub asked_passed : (words : List Text) → fault_of asked_app words ≡ [] → Passed words
unfolding clap_on_literals
asked_passed words passed =
    go (without_dashes words) refl (passes_after asked_app words asked_positional passed)
    (ap (first_of (codes "K")) (matches_after asked_app words asked_positional))
    (ap (first_of (codes "REF")) (matches_after asked_app words asked_positional))
    (ap (first_of (codes "D")) (matches_after asked_app words asked_positional))
  where
    go : (left : List Text) → without_dashes words ≡ left
        → fault_of asked_app (codes "--" ∷ without_dashes words) ≡ []
        → first_of (codes "K") (matches_of asked_app words)
        ≡ matches_behind (without_dashes words) (codes "K")
        → first_of (codes "REF") (matches_of asked_app words)
        ≡ matches_behind (without_dashes words) (codes "REF")
        → first_of (codes "D") (matches_of asked_app words)
        ≡ matches_behind (without_dashes words) (codes "D")
        → Passed words
    go [] same none first second third = absurd (cc (rw same at none))
    go (one ∷ []) same none first second third = absurd (cc (rw same at none))
    go (one ∷ two ∷ []) same none first second third = record {
      one = one;
      two = two;
      last = None;
      all = same;
      first = first ∙ ap (λ left. matches_behind left (codes "K")) same;
      second = second ∙ ap (λ left. matches_behind left (codes "REF")) same;
      third = third ∙ ap (λ left. matches_behind left (codes "D")) same;
    }
    go (one ∷ two ∷ three ∷ []) same none first second third = record {
      one = one;
      two = two;
      last = Some three;
      all = same;
      first = first ∙ ap (λ left. matches_behind left (codes "K")) same;
      second = second ∙ ap (λ left. matches_behind left (codes "REF")) same;
      third = third ∙ ap (λ left. matches_behind left (codes "D")) same;
    }
    go (one ∷ two ∷ three ∷ more ∷ rest) same none first second third =
        absurd (cc (rw same at none))

-- values that were found: a node, a word, and a depth or none
pub record AreFound (first second third : Option Text) (node : ℕ) (word : Text)
    (depth : Option ℕ) : Type 0 where
  pub node_is : first ≡ Some (decimal node)
  pub word_is : second ≡ Some word
  pub depth_is : third ≡ option_map decimal depth

-- so the values that were found are the words alone
pub asked_are : (words : List Text) → fault_of asked_app words ≡ []
    → (first second third : Option Text)
    → first ≡ first_of (codes "K") (matches_of asked_app words)
    → second ≡ first_of (codes "REF") (matches_of asked_app words)
    → third ≡ first_of (codes "D") (matches_of asked_app words)
    → (node : ℕ) (word : Text) (depth : Option ℕ)
    → AreFound first second third node word depth
    ↔ (without_dashes words ≡ decimal node ∷ word ∷ map decimal (option_to_list depth))
asked_are words passed first second third first_is second_is third_is node word depth =
    let got = asked_passed words passed in (
      λ found. got.all ∙ ap (λ a. a ∷ got.two ∷ option_to_list got.last)
          (some_is got.one (decimal node) (sym got.first ∙ sym first_is ∙ found.node_is))
          ∙ ap (λ b. decimal node ∷ b ∷ option_to_list got.last)
          (some_is got.two word (sym got.second ∙ sym second_is ∙ found.word_is))
          ∙ ap (λ rest. decimal node ∷ word ∷ rest)
          (ap option_to_list (sym got.third ∙ sym third_is ∙ found.depth_is) ∙ to-list depth),
      λ e.
          let same : got.one ∷ got.two ∷ option_to_list got.last
          ≡ decimal node ∷ word ∷ map decimal (option_to_list depth) = sym got.all ∙ e in
          record {
            node_is = first_is ∙ got.first ∙ ap (λ w. Some w) (first_same same);
            word_is = second_is ∙ got.second ∙ ap (λ w. Some w) (second_same same);
            depth_is = third_is ∙ got.third ∙ of-list got.last depth (rest_same same);
          },
    )
  where
    some_is : (a b : Text) → Some a ≡ Some b → a ≡ b
    some_is a b e = cc

    to-list : (o : Option ℕ) → option_to_list (option_map decimal o) ≡ map decimal (option_to_list o)
    to-list None = refl
    to-list (Some n) = refl

    of-list : (last : Option Text) (o : Option ℕ)
        → option_to_list last ≡ map decimal (option_to_list o) → last ≡ option_map decimal o
    of-list None None e = refl
    of-list None (Some n) e = absurd (cc)
    of-list (Some w) None e = absurd (cc)
    of-list (Some w) (Some n) e = cc

    first_same : {a b c d : Text} {xs ys : List Text} → a ∷ b ∷ xs ≡ c ∷ d ∷ ys → a ≡ c
    first_same e = cc

    second_same : {a b c d : Text} {xs ys : List Text} → a ∷ b ∷ xs ≡ c ∷ d ∷ ys → b ≡ d
    second_same e = cc

    rest_same : {a b c d : Text} {xs ys : List Text} → a ∷ b ∷ xs ≡ c ∷ d ∷ ys → xs ≡ ys
    rest_same e = cc

-- a depth that was found is one in its range
pub depth-found : (matches : ArgMatches) (depth : Option ℕ)
    → HasDepth matches depth
    ↔ ((first_value (found_of matches) (codes "D") ≡ option_map decimal depth) × IsDepth depth)
depth-found matches None = (λ has. (has, tt), λ both. both.0)
depth-found matches (Some depth) = (λ has. (has.0, has.1), λ both. (both.0, both.1))

-- a word that asks something is no flag
question-plain : (word : Text) (asked : Question) → question_of word ≡ Some asked
    → is_plain word ≡ true
question-plain [] asked asks = refl
question-plain (x ∷ xs) asked asks = go (x == 45) refl
  where
    go : (dash : Bool) → (x == 45) ≡ dash → is_plain (x ∷ xs) ≡ true
    go false is = rw is refl
    go true is =
        let same : x ≡ 45 = eqb-true x 45 is in
        absurd (cc (rw same at asks))

-- a node, such a word and a depth alone pass
pub asked_pass : (words : List Text) (node : ℕ) (asked : Question) (depth : Option ℕ)
    → node < 2 ^ 64 → IsDepth depth → AreAsked (without_dashes words) node asked depth
    → fault_of asked_app words ≡ []
unfolding clap_on_literals
asked_pass words node asked None small few are =
    let clear : list_all is_plain (without_dashes words) ≡ true =
    rw (are.are, decimal_is_plain node small, question-plain are.word asked are.asks) refl in
    fault_after_dashes asked_app words asked_positional clear
    ∙ ap (λ left. fault_of asked_app (codes "--" ∷ left)) are.are
asked_pass words node asked (Some depth) small few are =
    let less : depth < 2 ^ 64 = omega (arith, few.to) in
    let clear : list_all is_plain (without_dashes words) ≡ true =
    rw (
      are.are,
      decimal_is_plain node small,
      question-plain are.word asked are.asks,
      decimal_is_plain depth less,
    ) refl in
    fault_after_dashes asked_app words asked_positional clear
    ∙ ap (λ left. fault_of asked_app (codes "--" ∷ left)) are.are
