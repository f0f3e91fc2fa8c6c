-- Frames on a stream that goes on behind a colon.
use Rattle.std.proofs.Common.{◌≡◌, ℕ, ◌<◌, ◌≤◌, Bool, true, false, List, [], ◌∷◌, ◌++◌, drop, length, refl, sym, ap, ◌∙◌, arith, inl, inr}
use Rattle.std.specs.List.{cons_option, filter_map, list_any, onto_first, slice_split}
use Rattle.std.proofs.lemmas.Bool.{cases_Bool, or_parts}
use Rattle.std.proofs.lemmas.List.{drop-append-le}
use Rattle.std.proofs.lemmas.List.Elements.{filter_map-append}
use Rattle.std.proofs.lemmas.List.Splits.{length-slice_split, slice_split-cons_no, slice_split-cons_yes}
use Rattle.ascii_port.specs.Frames.{frame_in, frames, is_colon}

-- An item put onto the first part of a list that has one.
onto_first-append : {X : Type 0} (x : X) (parts more : List (List X)) → 0 < length parts
    → onto_first x (parts ++ more) ≡ onto_first x parts ++ more
onto_first-append x [] more some = absurd (omega arith)
onto_first-append x (part ∷ parts) more some = refl

-- There is a part.
some_parts : {X : Type 0} (p : X → Bool) (xs : List X) → 1 ≤ length (slice_split p xs)
some_parts p xs = omega (arith, length-slice_split p xs)

-- What is cut at an item has the parts on both its sides.
slice_split-behind : {X : Type 0} (p : X → Bool) (xs : List X) (y : X) (ys : List X) → p y ≡ true
    → slice_split p (xs ++ y ∷ ys) ≡ slice_split p xs ++ slice_split p ys
slice_split-behind p [] y ys parts = slice_split-cons_yes p y ys parts
slice_split-behind p (x ∷ xs) y ys parts =
    let rest = slice_split-behind p xs y ys parts in
    elim (cases_Bool (p x)) [
      | inl cuts ↦
          slice_split-cons_yes p x (xs ++ y ∷ ys) cuts ∙ ap (λ cut. [] ∷ cut) rest
          ∙ ap (λ cut. cut ++ slice_split p ys) (sym (slice_split-cons_yes p x xs cuts))
      | inr passes ↦
          slice_split-cons_no p x (xs ++ y ∷ ys) passes ∙ ap (onto_first x) rest
          ∙ onto_first-append x (slice_split p xs) (slice_split p ys) (some_parts p xs)
          ∙ ap (λ cut. cut ++ slice_split p ys) (sym (slice_split-cons_no p x xs passes))
    ]

-- What no item cuts is one part.
slice_split-whole : {X : Type 0} (p : X → Bool) (xs : List X) → list_any p xs ≡ false
    → slice_split p xs ≡ xs ∷ []
slice_split-whole p [] none = refl
slice_split-whole p (x ∷ xs) none =
    let parts = or_parts (p x) (list_any p xs) none in
    slice_split-cons_no p x xs parts.0 ∙ ap (onto_first x) (slice_split-whole p xs parts.1)

-- Before the first colon there is no frame.
pub frames-uncut : (stream : List ℕ) → list_any is_colon stream ≡ false → frames stream ≡ []
unfolding frames
frames-uncut stream none =
    ap (λ cut. filter_map frame_in (drop 1 cut)) (slice_split-whole is_colon stream none)

-- A last piece adds the frame that it begins with, if it does.
pub frames-behind : (earlier piece : List ℕ) → list_any is_colon piece ≡ false
    → frames (earlier ++ 58 ∷ piece) ≡ frames earlier ++ cons_option (frame_in piece) []
unfolding frames
frames-behind earlier piece none =
    let cut = slice_split-behind is_colon earlier 58 piece refl
    ∙ ap (λ last. slice_split is_colon earlier ++ last) (slice_split-whole is_colon piece none) in
    ap (λ pieces. filter_map frame_in (drop 1 pieces)) cut
    ∙ ap (filter_map frame_in)
    (drop-append-le 1 (slice_split is_colon earlier) (piece ∷ []) (some_parts is_colon earlier))
    ∙ filter_map-append frame_in (drop 1 (slice_split is_colon earlier)) (piece ∷ [])
