-- The words of a text.
use Rattle.std.specs.Prelude.{◌≡◌, ℕ, Bool, not, ◌||◌, ◌==◌, List, [], ◌∷◌, Option, Some, None}
use Rattle.std.specs.Prelude.{filter, length}
use Rattle.std.specs.List.{slice_split}
use Rattle.std.specs.Str.{bytes_eq}
use lib.Pointwise.{pointwise}

-- Space and tab part words, and nothing else does. This project's own.
abbrev pub is_blank : ℕ → Bool
is_blank byte = (byte == 32) || (byte == 9)

-- The words of a text: its longest runs of bytes that are no blanks. This project's own.
unfoldable pub text_words : List ℕ → List (List ℕ)
text_words text = filter (λ word. not (length word == 0)) (slice_split is_blank text)

-- A text has no word. This project's own.
abbrev pub HasNoWord : List ℕ → Type 0
HasNoWord text = text_words text ≡ []

-- The one word of a text that has one. This project's own.
abbrev pub only_word : List (List ℕ) → Option (List ℕ)
only_word (word ∷ []) = Some word
only_word _ = None

-- Words are these texts, one by one. This project's own.
abbrev pub are_words : List (List ℕ) → List (List ℕ) → Bool
are_words = pointwise bytes_eq
