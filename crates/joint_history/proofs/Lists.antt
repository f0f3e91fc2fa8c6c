-- What holds of each item of two lists, one behind the other, holds of each item of both.
use Rattle.std.proofs.Common.{◌≡◌, ◌+◌, List, ◌++◌, length, subst, arith}
use Rattle.std.specs.List.{All}
use Rattle.std.proofs.lemmas.List.{get_or_append_left, get_or-append-add, length-append}

pub all-front : {X : Type 0} (P : X → Type 0) (xs ys : List X) → All P (xs ++ ys) → All P xs
all-front P xs ys all k d low =
    let n = length-append xs ys in
    subst P (get_or_append_left xs ys d k low) (all k d (omega (arith, n)))

pub all-behind : {X : Type 0} (P : X → Type 0) (xs ys : List X) → All P (xs ++ ys) → All P ys
all-behind P xs ys all k d low =
    let n = length-append xs ys in
    subst P (get_or-append-add xs ys k d) (all (length xs + k) d (omega (arith, n)))
