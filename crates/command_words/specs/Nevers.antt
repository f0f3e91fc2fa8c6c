-- What a controller is asked never to come to, as words. This project's own.
use Rattle.std.specs.Prelude.{◌≡◌, ◌==◌, ℕ, if◌then◌else◌, nat_le, codes, bytes_eq, slice_index}
use Rattle.std.specs.Prelude.{List, ◌∷◌, map, Option, Some, None, IfSome, option_map}
use Rattle.std.specs.Prelude.{option_and_then, option_to_list}
use Rattle.std.specs.Fmt.{decimal}
use Rattle.plant_types.specs.declared.reference.Ref.{Ref}
use Rattle.plant_types.specs.declared.reference.RefKind.{RefKind}
use Rattle.plant_types.specs.declared.reference.RefKind.TheVariants.{Coil, Input}
use Rattle.plant_types.specs.Limits.{most_scans}
use Rattle.plant_types.specs.Plans.{IsFromTo}
use Rattle.cell_text.specs.Numbers.{reference_number}
use Rattle.command_words.specs.declared.words.Question.{Question}
use Rattle.command_words.specs.declared.words.Question.TheVariants.{On, Stop}

-- The kind of a coil and of an input, by the first digit of the reference.
abbrev pub discrete_kind : ℕ → Option RefKind
discrete_kind digit = if digit == 48 then Some Coil else if digit == 49 then Some Input else None

-- A coil or an input has a number from 1 on.
abbrev pub discrete_numbered : RefKind → ℕ → Option Ref
discrete_numbered kind number =
    if nat_le 1 number then Some (record { kind = kind; number = number }) else None

-- The coil or input that five digits stand for: the digit of its kind, then the four of its number.
abbrev pub discrete_of : List ℕ → Option Ref
discrete_of word =
    option_and_then (λ kind. option_and_then (discrete_numbered kind) (reference_number word))
    (discrete_kind (slice_index word 0))

-- What a word asks: whether the controller has stopped, or a coil or an input is on.
abbrev pub question_of : List ℕ → Option Question
question_of word =
    if bytes_eq word (codes "STOP") then Some Stop else option_map On (discrete_of word)

-- The words are a node, what is asked, and a depth where there is one.
pub record AreAsked (words : List (List ℕ)) (node : ℕ) (asked : Question) (depth : Option ℕ)
    : Type 0 where
  pub word : List ℕ
  pub are : words ≡ decimal node ∷ word ∷ map decimal (option_to_list depth)
  pub asks : question_of word ≡ Some asked

-- A depth is a number of scans, 1 to 2000.
abbrev pub IsDepth : Option ℕ → Type 0
IsDepth depth = IfSome depth (IsFromTo 1 most_scans)
