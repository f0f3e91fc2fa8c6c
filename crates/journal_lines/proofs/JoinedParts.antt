-- Pieces with a byte between each two.
use Rattle.std.proofs.Common.{◌≡◌, ℕ, List, [], ◌∷◌, ◌++◌, map, sym, ap, ◌∙◌}
use Rattle.std.specs.List.{flat_map, join_with_byte}
use Rattle.std.proofs.lemmas.List.{append-nil}
use Rattle.std.proofs.lemmas.List.Concat.{flat_map-cons}

-- the first, and each other one behind that byte
pub joined_parts : {V : Type 0} (text : V → List ℕ) (at : ℕ) (x : V) (xs : List V)
    → join_with_byte at (map text (x ∷ xs)) ≡ text x ++ flat_map (λ y. at ∷ text y) xs
joined_parts text at x [] = sym (append-nil (text x))
joined_parts text at x (y ∷ xs) =
    ap (λ (t : List ℕ). text x ++ t)
    (ap (λ (t : List ℕ). at ∷ t) (joined_parts text at y xs)
    ∙ sym (flat_map-cons (λ z. at ∷ text z) y xs))
