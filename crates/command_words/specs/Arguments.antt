-- What `clap` finds in the words behind the command word. This project's own.
use Rattle.std.specs.Prelude.{◌≡◌, ◌↔◌, ℕ, List, [], Option, Some, None, IfSome, IsSome, codes}
use Rattle.std.specs.Fmt.{decimal}
use Rattle.clap.specs.Words.{App, fault_of, first_value, found_of, matches_of, rows_of}
use Rattle.clap.specs.declared.parser.matches.ArgMatches.{ArgMatches}
use Rattle.plant_types.specs.Limits.{most_address, most_scans}
use Rattle.plant_types.specs.Plans.{IsFromTo}
use Rattle.command_words.specs.Nevers.{question_of}
use Rattle.command_words.specs.declared.words.Question.{Question}

-- A command has taken the words: something was found exactly where they have no fault, and then the
-- values that stand in them.
pub record HasTaken (app : App) (words : List (List ℕ)) (read : Option ArgMatches)
    : Type 0 where
  pub taken : IsSome read ↔ (fault_of app words ≡ [])
  pub rows : IfSome read (λ matches. rows_of (found_of matches) ≡ matches_of app words)

-- The value of an argument is a number from 1 to a largest.
abbrev pub HasNumeral : ArgMatches → List ℕ → ℕ → ℕ → Type 0
HasNumeral matches id most number =
    (first_value (found_of matches) id ≡ Some (decimal number)) × IsFromTo 1 most number

-- The values of the two arguments are a number from 1 to a largest and a number of scans.
abbrev pub HasNumeralAndScans : ArgMatches → ℕ → ℕ × ℕ → Type 0
HasNumeralAndScans matches most both =
    HasNumeral matches (codes "K") most both.0 × HasNumeral matches (codes "N") most_scans both.1

-- The values of the three arguments are a number from 1 to a largest and two numbers of scans.
abbrev pub HasNumeralAndTwoScans : ArgMatches → ℕ → ℕ × ℕ × ℕ → Type 0
HasNumeralAndTwoScans matches most three =
    HasNumeral matches (codes "K") most three.0 × HasNumeral matches (codes "F") most_scans three.1
    × HasNumeral matches (codes "N") most_scans three.2

-- The value of an argument asks this.
pub record HasQuestion (matches : ArgMatches) (asked : Question) : Type 0 where
  pub word : List ℕ
  pub there : first_value (found_of matches) (codes "REF") ≡ Some word
  pub asks : question_of word ≡ Some asked

-- The value of an argument is a depth, or there is neither.
abbrev pub HasDepth : ArgMatches → Option ℕ → Type 0
HasDepth matches None = first_value (found_of matches) (codes "D") ≡ None
HasDepth matches (Some depth) = HasNumeral matches (codes "D") most_scans depth

-- The values of the three arguments are a node, what is asked, and a depth or none.
abbrev pub HasAsked : ArgMatches → ℕ × Question × Option ℕ → Type 0
HasAsked matches three =
    HasNumeral matches (codes "K") most_address three.0 × HasQuestion matches three.1
    × HasDepth matches three.2

-- The values of the two arguments are a node, and a depth or none.
abbrev pub HasNodeAndDepth : ArgMatches → ℕ × Option ℕ → Type 0
HasNodeAndDepth matches both =
    HasNumeral matches (codes "K") most_address both.0 × HasDepth matches both.1
