-- The drops of a controller by their numbers, and their exchanges.
use Rattle.std.specs.Prelude.{◌≡◌, ℕ, ◌==◌, true, if◌then◌else◌, List, [], ◌∷◌, Option, Some, None}
use Rattle.std.specs.Prelude.{is_some}
use Rattle.plant_types.specs.declared.drops.ScriptRow.{ScriptRow}
use Rattle.plant_types.specs.declared.drops.ScriptRow.TheVariants as rows
use Rattle.plant_types.specs.declared.drops.IoDrop.{IoDrop}
use Rattle.plant_types.specs.Store.{Contents}
use Rattle.traffic_cop.specs.declared.cop.Health.{Health}
use Rattle.traffic_cop.specs.declared.cop.Health.TheVariants as healths
use Rattle.traffic_cop.specs.Exchange.{after_exchange, output_words, row_at, HasModules, IsDrop}

-- The first drop of a number. This project's own.
unfoldable pub drop_named : List IoDrop → ℕ → Option IoDrop
drop_named [] number = None
drop_named (drop ∷ drops) number =
    if drop.number == number then Some drop else drop_named drops number

abbrev pub IsNamed : List IoDrop → ℕ → Type 0
IsNamed drops number = is_some (drop_named drops number) ≡ true

-- A drop is there, of as many words as its rows have, and a store has the references of its
-- modules. This project's own.
pub record CanExchange (drops : List IoDrop) (number : ℕ) (m : Contents) : Type 0 where
  pub found : IoDrop
  pub named : drop_named drops number ≡ Some found
  pub fits : IsDrop found
  pub room : HasModules m found.modules

-- Whether a drop answers with a row. This project's own.
abbrev pub health_by : Option ScriptRow → Health
health_by (Some rows.Silent) = healths.Silent
health_by _ = healths.Present

abbrev pub health_in : Option IoDrop → ℕ → Health
health_in None k = healths.Silent
health_in (Some drop) k = health_by (row_at drop.script k)

-- Whether a drop answers at its k-th exchange. This project's own.
abbrev pub health_at : List IoDrop → ℕ → ℕ → Health
health_at drops number k = health_in (drop_named drops number) k

abbrev pub exchanged_in : Option IoDrop → ℕ → Contents → Contents
exchanged_in None k m = m
exchanged_in (Some drop) k m = after_exchange drop k m

-- The contents after the k-th input exchange of a drop. This project's own.
abbrev pub input_after : List IoDrop → ℕ → ℕ → Contents → Contents
input_after drops number k m = exchanged_in (drop_named drops number) k m

abbrev pub outputs_in : Option IoDrop → Contents → List ℕ
outputs_in None m = []
outputs_in (Some drop) m = output_words m drop.modules

-- The output words of a drop. This project's own.
abbrev pub outputs_of : List IoDrop → ℕ → Contents → List ℕ
outputs_of drops number m = outputs_in (drop_named drops number) m
