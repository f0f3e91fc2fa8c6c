-- The least number of a drop in which two controllers differ. All of it is this project's own.
use Rattle.std.specs.Prelude.{◌≡◌, ℕ, List, Option, Some, None, min, slice_get}
use Rattle.plant_types.specs.declared.drops.IoDrop.{IoDrop}
use Rattle.traffic_cop.specs.Drops.{drop_named}
use Rattle.state_space.specs.Reaching.{IsBelow}
use Rattle.side_runs.specs.Beside.{AreAlikeDrops}

-- Two controllers have a field in common at the drop of a number.
abbrev pub AreAlikeAt : List IoDrop → List IoDrop → ℕ → Type 0
AreAlikeAt old new number = AreAlikeDrops (drop_named old number) (drop_named new number)

-- A number, if there is one, is that of a drop in which they differ.
abbrev pub DifferAt : List IoDrop → List IoDrop → Option ℕ → Type 0
DifferAt old new None = Unit {0}
DifferAt old new (Some number) = AreAlikeAt old new number → ⊥

-- Of these drops, those with a less number, or all where there is none, are alike.
pub record IsLeastUnlike (old new looked : List IoDrop) (least : Option ℕ) : Type 0 where
  pub differ : DifferAt old new least
  pub below : (i : ℕ) (drop : IoDrop) → slice_get looked i ≡ Some drop
      → IsBelow least drop.number → AreAlikeAt old new drop.number

-- The least number by which they differ, or none where they take one field.
pub record IsFirstUnlike (old new : List IoDrop) (least : Option ℕ) : Type 0 where
  pub differ : DifferAt old new least
  pub below : (number : ℕ) → IsBelow least number → AreAlikeAt old new number

-- The lesser of two numbers, if there is one.
abbrev pub lesser : Option ℕ → Option ℕ → Option ℕ
lesser None other = other
lesser (Some one) None = Some one
lesser (Some one) (Some other) = Some (min one other)
