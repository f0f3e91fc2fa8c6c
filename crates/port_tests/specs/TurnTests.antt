-- Words of the tests of turns. This project's own.
use Rattle.std.specs.Prelude.{◌≡◌, ℕ, List, ◌∷◌}

-- A list begins with this.
pub record HasFirst (first : ℕ) (list : List ℕ) : Type 0 where
  pub rest : List ℕ
  pub is : list ≡ first ∷ rest
