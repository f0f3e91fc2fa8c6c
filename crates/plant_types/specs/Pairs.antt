-- A test of each two items of a list.
use Rattle.std.specs.Prelude.{Bool, true, not, ◌&&◌, List, [], ◌∷◌}
use Rattle.std.specs.List.{list_all}

-- No item of a list stands so to an earlier one. This project's own.
unfoldable pub no_two : {A : Type 0} → (A → A → Bool) → List A → Bool
no_two so [] = true
no_two so (item ∷ later) = list_all (λ other. not (so other item)) later && no_two so later
