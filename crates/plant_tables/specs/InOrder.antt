-- Items of a list that are read in their order. This project's own.
use Rattle.std.specs.Prelude.{ℕ, ◌+◌, List, [], ◌∷◌, ◌++◌, Result, Ok}
use Rattle.cell_text.specs.Steps.{◌>>=◌}

-- The items of a list beside their positions, the first of which is given.
abbrev pub numbered_from : {A : Type 0} → ℕ → List A → List (ℕ × A)
numbered_from number [] = []
numbered_from number (x ∷ xs) = (number, x) ∷ numbered_from (number + 1) xs

-- The items of a list beside their positions in it, which count from 1.
abbrev pub with_positions : {A : Type 0} → List A → List (ℕ × A)
with_positions xs = numbered_from 1 xs

-- Items, each read with what those before it gave: what all of them give, or the first refusal.
unfoldable pub each_behind : {A B E : Type 0}
    → (List B → A → Result B E) → List B → List A → Result (List B) E
each_behind read earlier [] = Ok earlier
each_behind read earlier (x ∷ xs) = do
  y ← read earlier x
  each_behind read (earlier ++ y ∷ []) xs

-- Items, each read alone: what all of them give, or the first refusal.
abbrev pub each_of : {A B E : Type 0} → (A → Result B E) → List A → Result (List B) E
each_of read [] = Ok []
each_of read (x ∷ xs) = do
  y ← read x
  ys ← each_of read xs
  Ok (y ∷ ys)

-- Items, each read with its position, the first of which is given.
abbrev pub each_from : {A B E : Type 0} → (ℕ → A → Result B E) → ℕ → List A → Result (List B) E
each_from read number [] = Ok []
each_from read number (x ∷ xs) = do
  y ← read number x
  ys ← each_from read (number + 1) xs
  Ok (y ∷ ys)

-- Items, each tested with its position, the first of which is given: the first refusal, if there is
-- one.
abbrev pub each_passes : {A E : Type 0} → (ℕ → A → Result (Unit {0}) E) → ℕ → List A
    → Result (Unit {0}) E
each_passes test number [] = Ok tt
each_passes test number (x ∷ xs) = do
  here ← test number x
  each_passes test (number + 1) xs

-- The items that are read, behind those that were read before.
abbrev pub with_front : {A E : Type 0} → List A → Result (List A) E → Result (List A) E
with_front front read = read >>= λ more. Ok (front ++ more)
