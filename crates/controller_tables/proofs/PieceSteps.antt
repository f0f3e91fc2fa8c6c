-- Pieces, one after another.
use Rattle.std.proofs.Common.{◌≡◌, ℕ, ◌+◌, ◌<◌, true, false, List, [], ◌∷◌, ◌++◌, length, drop}
use Rattle.std.proofs.Common.{get_or, Result, Ok, Err, refl, sym, ap, ◌∙◌}
use Rattle.std.specs.Prelude.{filter}
use Rattle.std.specs.List.{flat_map}
use Rattle.std.proofs.lemmas.List.{drop_more}
use Rattle.std.proofs.Math.Seq.{drop-length}
use Rattle.plant_types.specs.Fault.{at_place}
use Rattle.controller_tables.specs.declared.owner.Owner.{Owner}
use Rattle.cell_text.specs.Steps.{◌>>=◌}
use Rattle.plant_tables.specs.declared.refusal.LoadEnd.{LoadEnd}
use Rattle.plant_tables.specs.declared.refusal.LoadEnd.TheVariants as ends
use Rattle.plant_tables.specs.Refusals.{Refusal, Stops}
use Rattle.controller_tables.specs.Program.{ReadProgram, place_of_next, with_piece, with_pieces}
use Rattle.controller_tables.specs.Pieces.{has_word, pieces_of_line}

-- a first step that stops stops the steps behind it
stops_first : {A B : Type 0} (end : LoadEnd) (r : Result A Refusal) (g : A → Result B Refusal)
    → Stops end r → Stops end (r >>= g)
stops_first ends.NoMemory r g h = tt
stops_first (ends.Refused fault place) r g h = rw h refl

-- what stops a reading stops one that is the same
pub stops_along : {A : Type 0} (end : LoadEnd) (r s : Result A Refusal) → r ≡ s
    → Stops end r → Stops end s
stops_along end r s e h = rw (← e) h

-- what stands at an index comes before what is left behind it
at_front : {A : Type 0} (xs : List A) (n : ℕ) (x : A) → n < length xs → x ≡ get_or xs n x
    → drop n xs ≡ x ∷ drop (n + 1) xs
at_front xs n x h e = drop_more xs n x h ∙ ap (λ y. y ∷ drop (n + 1) xs) (sym e)

-- a first piece, and then the others
with_pieces-cons : (owner : Owner) (read : ReadProgram) (piece : List ℕ) (pieces : List (List ℕ))
    → with_pieces owner read (piece ∷ pieces)
    ≡ (at_place (place_of_next owner.position read) (with_piece owner.sizes read piece)
    >>= λ next. with_pieces owner next pieces)
unfolding with_pieces
with_pieces-cons owner read piece pieces = refl

-- no piece changes nothing
with_pieces-nil : (owner : Owner) (read : ReadProgram) → with_pieces owner read [] ≡ Ok read
unfolding with_pieces
with_pieces-nil owner read = refl

-- a part that has a word is the next piece
pub piece-read : (owner : Owner) (read next : ReadProgram) (parts : List (List ℕ)) (n : ℕ)
    (piece : List ℕ) → n < length parts
    → piece ≡ get_or parts n piece → has_word piece ≡ true
    → at_place (place_of_next owner.position read) (with_piece owner.sizes read piece) ≡ Ok next
    → with_pieces owner next (filter has_word (drop (n + 1) parts))
    ≡ with_pieces owner read (filter has_word (drop n parts))
piece-read owner read next parts n piece h e some ok =
    rw (
      at_front parts n piece h e,
      some,
      with_pieces-cons owner read piece (filter has_word (drop (n + 1) parts)),
      ok,
    ) refl

-- a part without a word is no piece
pub piece-none : (owner : Owner) (read : ReadProgram) (parts : List (List ℕ)) (n : ℕ)
    (piece : List ℕ) → n < length parts
    → piece ≡ get_or parts n piece → has_word piece ≡ false
    → with_pieces owner read (filter has_word (drop (n + 1) parts))
    ≡ with_pieces owner read (filter has_word (drop n parts))
piece-none owner read parts n piece h e none = rw (at_front parts n piece h e, none) refl

-- a piece that is refused ends the reading
pub piece-stops : (owner : Owner) (read : ReadProgram) (parts : List (List ℕ)) (n : ℕ)
    (piece : List ℕ) (end : LoadEnd) → n < length parts
    → piece ≡ get_or parts n piece → has_word piece ≡ true
    → Stops end (at_place (place_of_next owner.position read) (with_piece owner.sizes read piece))
    → Stops end (with_pieces owner read (filter has_word (drop n parts)))
piece-stops owner read parts n piece end h e some s =
    rw (
      at_front parts n piece h e,
      some,
      with_pieces-cons owner read piece (filter has_word (drop (n + 1) parts)),
    )
    (stops_first end (at_place (place_of_next owner.position read)
    (with_piece owner.sizes read piece)) (λ next. with_pieces owner
    next (filter has_word (drop (n + 1) parts))) s)

-- no part is left
pub pieces-end : (owner : Owner) (read : ReadProgram) (parts : List (List ℕ)) (n : ℕ)
    → n ≡ length parts
    → with_pieces owner read (filter has_word (drop n parts)) ≡ Ok read
pieces-end owner read parts n e = rw (e, drop-length parts) (with_pieces-nil owner read)

-- a step before pieces and other pieces
then_append : (owner : Owner) (xs ys : List (List ℕ)) → ((next : ReadProgram)
    → with_pieces owner next (xs ++ ys)
    ≡ (with_pieces owner next xs >>= λ after. with_pieces owner after ys))
    → (r : Result ReadProgram Refusal) → (r >>= λ next. with_pieces owner next (xs ++ ys))
    ≡ ((r >>= λ next. with_pieces owner next xs) >>= λ next. with_pieces owner next ys)
then_append owner xs ys ih (Ok next) = ih next
then_append owner xs ys ih (Err e) = refl

-- pieces before others
with_pieces-append : (owner : Owner) (xs ys : List (List ℕ)) (read : ReadProgram)
    → with_pieces owner read (xs ++ ys)
    ≡ (with_pieces owner read xs >>= λ next. with_pieces owner next ys)
with_pieces-append owner [] ys read = rw (with_pieces-nil owner read) refl
with_pieces-append owner (x ∷ xs) ys read =
    let first = at_place (place_of_next owner.position read) (with_piece owner.sizes read x) in
    with_pieces-cons owner read x (xs ++ ys)
    ∙ then_append owner xs ys (λ next. with_pieces-append owner xs ys next) first
    ∙ ap (λ (r : Result ReadProgram Refusal). r >>= λ next. with_pieces owner next ys)
    (sym (with_pieces-cons owner read x xs))

-- the lines that are left are a line and those behind it
line-cons : (owner : Owner) (read : ReadProgram) (all : List (List ℕ)) (n : ℕ) (line : List ℕ)
    → n < length all → line ≡ get_or all n line
    → with_pieces owner read (flat_map pieces_of_line (drop n all))
    ≡ (with_pieces owner read (pieces_of_line line)
    >>= λ next. with_pieces owner next (flat_map pieces_of_line (drop (n + 1) all)))
line-cons owner read all n line h e = rw (at_front all n line h e)
    (with_pieces-append owner (pieces_of_line line)
    (flat_map pieces_of_line (drop (n + 1) all)) read)

-- the pieces of a line stand before those of the lines behind it
pub line-read : (owner : Owner) (read next : ReadProgram) (all : List (List ℕ)) (n : ℕ)
    (line : List ℕ) → n < length all → line ≡ get_or all n line
    → with_pieces owner read (pieces_of_line line) ≡ Ok next
    → with_pieces owner next (flat_map pieces_of_line (drop (n + 1) all))
    ≡ with_pieces owner read (flat_map pieces_of_line (drop n all))
line-read owner read next all n line h e ok = sym (line-cons owner read all n line h e ∙ rw ok refl)

-- a line that is refused ends the reading
pub line-stops : (owner : Owner) (read : ReadProgram) (all : List (List ℕ)) (n : ℕ) (line : List ℕ)
    (end : LoadEnd) → n < length all → line ≡ get_or all n line
    → Stops end (with_pieces owner read (pieces_of_line line))
    → Stops end (with_pieces owner read (flat_map pieces_of_line (drop n all)))
line-stops owner read all n line end h e s =
    rw (line-cons owner read all n line h e)
    (stops_first end (with_pieces owner read (pieces_of_line line))
    (λ next. with_pieces owner next (flat_map pieces_of_line (drop (n + 1) all))) s)

-- no line is left
pub lines-end : (owner : Owner) (read : ReadProgram) (all : List (List ℕ)) (n : ℕ) → n ≡ length all
    → with_pieces owner read (flat_map pieces_of_line (drop n all)) ≡ Ok read
lines-end owner read all n e = rw (e, drop-length all) (with_pieces-nil owner read)
