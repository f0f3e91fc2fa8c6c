-- The members of a ring join its book one after another.
use Rattle.std.proofs.Common.{◌≡◌, ℕ, ◌+◌, ◌<◌, Bool, true, false, cond, List, [], ◌∷◌, drop}
use Rattle.std.proofs.Common.{length}
use Rattle.std.proofs.Common.{get_or, Option, Some, refl, sym, ap, ◌∙◌, nat_cmp}
use Rattle.std.proofs.lemmas.List.{at_drop_more}
use Rattle.std.proofs.lemmas.Map.Lookups.{exact_unsigned}
use Rattle.std.specs.BTreeMap.{is_at}
use Rattle.std.specs.Map.{lookup}
use Rattle.std.specs.Cmp.{nat_cmp_total}
use Rattle.std.specs.Ordering.{eq_by_cmp}
use Rattle.std.specs.FinMap.{insert, empty, from_entries, get-insert, same_map}
use Rattle.std.specs.FinMap.{nat_cmp-IsAntisymmetric}
use Rattle.global_data.specs.Book.{Book, GlobalIs, no_words, new_book}
use Rattle.global_data.proofs.Entries.{entry-written}

-- the members of a list join a book one after another
abbrev pub joined : Book → List ℕ → Book
joined book [] = book
joined book (m ∷ ms) = joined (insert book m no_words) ms

either_way : {X : Type 0} (a b : Bool) (x : X) (o : Option X)
    → cond a (Some x) (cond b (Some x) o) ≡ cond b (Some x) (cond a (Some x) o)
either_way true true x o = refl
either_way true false x o = refl
either_way false true x o = refl
either_way false false x o = refl

-- two that join may change places
swapped : (book : Book) (m n : ℕ)
    → insert (insert book m no_words) n no_words ≡ insert (insert book n no_words) m no_words
swapped book m n = same_map nat_cmp_total nat_cmp-IsAntisymmetric _ _ (λ q.
    get-insert nat_cmp_total _ n no_words q
    ∙ ap (cond (eq_by_cmp nat_cmp q n) (Some no_words)) (get-insert nat_cmp_total book m no_words q)
    ∙ either_way (eq_by_cmp nat_cmp q n) (eq_by_cmp nat_cmp q m) no_words _
    ∙ sym (get-insert nat_cmp_total _ m no_words q ∙ ap
    (cond (eq_by_cmp nat_cmp q m) (Some no_words)) (get-insert nat_cmp_total book n no_words q)))

joined-last : (book : Book) (m : ℕ) (ms : List ℕ)
    → joined (insert book m no_words) ms ≡ insert (joined book ms) m no_words
joined-last book m [] = refl
joined-last book m (n ∷ ms) = ap (λ b. joined b ms) (swapped book m n)
    ∙ joined-last (insert book n no_words) m ms

-- who joins an empty book is in the new one
pub joined-new : (ms : List ℕ) → joined empty ms ≡ new_book ms
joined-new [] = refl
joined-new (m ∷ ms) = joined-last empty m ms ∙ ap (λ b. insert b m no_words) (joined-new ms)

-- the next member joins by an entry of its own
pub joined-next : (es fs : List (ℕ × GlobalIs)) (ms : List ℕ) (k : ℕ) (words : GlobalIs)
    (book : Book) → k < length ms → words ≡ no_words
    → ((q : ℕ) → lookup (is_at (nat_cmp q)) fs
    ≡ cond (is_at (nat_cmp (get_or ms k 0)) q) (Some words) (lookup (is_at (nat_cmp q)) es))
    → joined (from_entries es) (drop k ms) ≡ book
    → joined (from_entries fs) (drop (k + 1) ms) ≡ book
joined-next es fs ms k words book more none updates is =
    ap (λ (b : Book). joined b (drop (k + 1) ms))
    (entry-written nat_cmp_total exact_unsigned es fs (get_or ms k 0) words updates
    ∙ ap (insert (from_entries es) (get_or ms k 0)) none)
    ∙ (sym (at_drop_more (joined (from_entries es)) ms k 0 more) ∙ is)
