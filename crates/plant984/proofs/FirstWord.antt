-- Lists that are not empty.
use Rattle.std.proofs.Common.{◌≡◌, ◌≤◌, ◌-◌, List, [], ◌∷◌, length, take, drop, get_or}
use Rattle.std.proofs.Common.{ap, sym, ◌∙◌, arith}
use Rattle.std.proofs.lemmas.List.{take_all}

-- a list that is not empty is its first item and the rest
pub first-rest : {A : Type 0} (xs : List A) (a : A) → 1 ≤ length xs → a ≡ get_or xs 0 a
    → xs ≡ a ∷ take (length xs - 1) (drop 1 xs)
first-rest [] a some is = absurd (omega arith)
first-rest (x ∷ xs) a some is =
    ap (λ b. b ∷ xs) (sym is)
    ∙ ap (λ rest. a ∷ rest) (sym (take_all (length (x ∷ xs) - 1) xs (omega arith)))
