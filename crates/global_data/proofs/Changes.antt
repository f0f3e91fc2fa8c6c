-- A book after a member put words or passed its token.
use Rattle.std.proofs.Common.{◌≡◌, ℕ, List, Option, Some, None, true, false, is_some, cond}
use Rattle.std.proofs.Common.{unwrap_or, sym, ap, ◌∙◌, nat_cmp}
use Rattle.std.proofs.lemmas.Map.Lookups.{exact_unsigned}
use Rattle.std.specs.BTreeMap.{is_at}
use Rattle.std.specs.Map.{lookup}
use Rattle.std.specs.Cmp.{nat_cmp_total}
use Rattle.std.specs.FinMap.{get, insert, contains_key, from_entries}
use Rattle.global_data.specs.Book.{Book, GlobalIs, no_words, with_put, with_passed}
use Rattle.global_data.proofs.Entries.{get-entries, entry-written}

-- what the entries have of a node is what the book has of it
pub words-read : (es : List (ℕ × GlobalIs)) (book : Book) (node : ℕ) → from_entries es ≡ book
    → lookup (is_at (nat_cmp node)) es ≡ get book node
words-read es book node is = sym (get-entries nat_cmp_total es node) ∙ ap (λ m. get m node) is

-- a member has its entry
pub no_member : (book : Book) (node : ℕ) → contains_key book node ≡ true → get book node ≡ None → ⊥
no_member book node member none = let no' : false ≡ true = sym (ap is_some none) ∙ member in cc

-- a node's entry says new words, and all others what they said
abbrev pub WordsWritten : List (ℕ × GlobalIs) → List (ℕ × GlobalIs) → ℕ → GlobalIs → Type 0
WordsWritten es fs node new = (q : ℕ) → lookup (is_at (nat_cmp q)) fs
    ≡ cond (is_at (nat_cmp node) q) (Some new) (lookup (is_at (nat_cmp q)) es)

words-written : (es fs : List (ℕ × GlobalIs)) (book : Book) (node : ℕ) (new : GlobalIs)
    → from_entries es ≡ book → WordsWritten es fs node new → from_entries fs ≡ insert book node new
words-written es fs book node new is written =
    entry-written nat_cmp_total exact_unsigned es fs node new written
    ∙ ap (λ m. insert m node new) is

-- the entry of a member holds the words that it put
pub put-written : (es fs : List (ℕ × GlobalIs)) (book : Book) (node : ℕ) (words : List ℕ)
    (old new : GlobalIs) → from_entries es ≡ book → get book node ≡ Some old
    → new ≡ record { put = words; heard = old.heard } → WordsWritten es fs node new
    → from_entries fs ≡ with_put book node words
put-written es fs book node words old new is got put written =
    let heard : old.heard ≡ (unwrap_or (get book node) no_words).heard =
    sym (ap (λ (w : Option GlobalIs). (unwrap_or w no_words).heard) got) in
    words-written es fs book node new is written
    ∙ ap (insert book node) (put ∙ (λ i. record { put = words; heard = heard i }))

-- the entry of a member that passed says that its words went with the token
pub passed-written : (es fs : List (ℕ × GlobalIs)) (book : Book) (node : ℕ)
    (old new : GlobalIs) → from_entries es ≡ book → get book node ≡ Some old
    → new ≡ record { put = old.put; heard = old.put } → WordsWritten es fs node new
    → from_entries fs ≡ with_passed book node
passed-written es fs book node old new is got passed written =
    let put : old.put ≡ (unwrap_or (get book node) no_words).put =
    sym (ap (λ (w : Option GlobalIs). (unwrap_or w no_words).put) got) in
    words-written es fs book node new is written
    ∙ ap (insert book node) (passed ∙ (λ i. record { put = put i; heard = put i }))
