-- The words that nodes pass with their tokens. Modbus Plus Network Planning and Installation Guide.
use Rattle.std.specs.Prelude.{ℕ, List, [], map, unwrap_or}
use Rattle.std.specs.Ordering.{nat_cmp}
use Rattle.std.specs.FinMap.{FinMap, get, insert, from_entries}

-- The words that a node put, and those that went with its latest token.
pub record GlobalIs : Type 0 where
  pub put : List ℕ
  pub heard : List ℕ

abbrev pub no_words : GlobalIs
no_words = record { put = []; heard = [] }

-- Each member of a ring, by its node, with its words.
abbrev pub Book : Type 0
Book = FinMap nat_cmp GlobalIs

-- At first no member has put anything.
abbrev pub new_book : List ℕ → Book
new_book members = from_entries (map (λ node. (node, no_words)) members)

-- What a node put and passed; nothing for a node that is no member.
abbrev pub words_at : Book → ℕ → GlobalIs
words_at book node = unwrap_or (get book node) no_words

-- The book after a node put words: those that went with its token stay.
abbrev pub with_put : Book → ℕ → List ℕ → Book
with_put book node words =
    insert book node (record { put = words; heard = (words_at book node).heard })

-- The book after a node passed its token: the words that it has put went with it.
abbrev pub with_passed : Book → ℕ → Book
with_passed book node =
    let put = (words_at book node).put in insert book node (record { put = put; heard = put })
