-- The code by which a proof tells two books apart. This project's own.
use Rattle.std.specs.Prelude.{ℕ, List, refl}
use Rattle.std.specs.Coded.{Coded, code_by, coded×, coded_ℕ, coded_list}
use Rattle.std.specs.FinMap.{code}
use Rattle.global_data.specs.Book.{Book, GlobalIs}

-- A node's words as a pair of lists.
abbrev pub coded_words : Coded GlobalIs
coded_words =
    code_by (List ℕ × List ℕ) (coded× (coded_list coded_ℕ) (coded_list coded_ℕ))
    (λ w. (w.put, w.heard)) (λ p. record { put = p.0; heard = p.1 }) (λ _. refl)

-- A book as the list of its nodes with their words.
abbrev pub coded_book : Coded Book
coded_book = code coded_ℕ coded_words
