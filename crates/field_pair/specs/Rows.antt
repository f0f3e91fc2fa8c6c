-- Rows of scripts as words. All of it is this project's own.
use Rattle.std.specs.Prelude.{◌≡◌, ℕ, ◌↔◌, true, List, [], ◌∷◌, Some, slice_get, Vec}
use Rattle.std.specs.List.{list_any}
use Rattle.std.specs.Cmp.Lexicographic.{pointwise}
use Rattle.std.specs.Prelude.{nat_eq}
use Rattle.std.specs.declared.alloc.Global.{Global}
use Rattle.plant_types.specs.declared.drops.ScriptRow.{ScriptRow}
use Rattle.plant_types.specs.declared.drops.ScriptRow.TheVariants.{Silent, Row}

-- Words that tell a row from each other one: none where it is silent, and else a 1 before its own.
abbrev pub row_key : ScriptRow → List ℕ
row_key Silent = []
row_key (Row words) = 1 ∷ words

-- Words are those of a row of a script.
pub record IsOfRow (script : List ScriptRow) (key : List ℕ) : Type 0 where
  pub place : ℕ
  pub row : ScriptRow
  pub is_there : slice_get script place ≡ Some row
  pub words : row_key row ≡ key

-- Keys hold the rows of a script, and no others.
abbrev pub HoldsRows : List (Vec ℕ Global) → List ScriptRow → Type 0
HoldsRows keys script =
    (key : List ℕ) → list_any (λ held. pointwise nat_eq key held.items) keys ≡ true
    ↔ IsOfRow script key
