-- What a caller sees of a source and a sink in memory: this project's own. Each count stands
-- still at its type's end.
use Rattle.std.specs.Prelude.{ℕ, List}

-- The bytes left, the most that a read gives, the numbers of the calls that fail, the calls made,
-- and how many of them failed.
pub record Input : Type 0 where
  pub left : List ℕ
  pub piece : ℕ
  pub fails : List ℕ
  pub calls : ℕ
  pub faults : ℕ

-- The bytes taken, how many fit without new memory, the most that a write takes, the numbers of
-- the calls that fail, the calls made, and how many of them failed.
pub record Output : Type 0 where
  pub taken : List ℕ
  pub room : ℕ
  pub piece : ℕ
  pub fails : List ℕ
  pub calls : ℕ
  pub faults : ℕ
