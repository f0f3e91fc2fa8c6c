-- Scans of both as numbers, and as numbers for each of the two. All of it is this project's own.
use Rattle.std.specs.Prelude.{◌≡◌, ◌≤◌, ℕ, ◌+◌, ◌-◌, ◌*◌, ◌/◌, ◌%◌, ◌==◌, Bool, if◌then◌else◌}
use Rattle.std.specs.Prelude.{List, [], ◌∷◌, map, Option, Some, None}
use Rattle.std.specs.List.{AllByRecursion, list_any}
use Rattle.plant_types.specs.declared.drops.IoDrop.{IoDrop}
use Rattle.plant_types.specs.declared.plan.ControllerPlan.{ControllerPlan}
use Rattle.plant_types.specs.declared.plan.OrderRow.{OrderRow}
use Rattle.field_machine.specs.declared.exchanges.Exchange.{Exchange}
use Rattle.field_machine.specs.Choices.{choices_for, product}
use Rattle.side_runs.specs.Brought.{next_row}
use Rattle.field_pair.specs.declared.exchanges.Choice.{Choice}
use Rattle.field_pair.specs.declared.exchanges.Read.{Read}
use Rattle.field_pair.specs.Exchanged.{field_of, read_by_both, without}

-- A number was taken out of a list where it is there, and the list stays as it is where it is not.
pub record TakesOut (old new : List ℕ) (number : ℕ) (taken : Bool) : Type 0 where
  pub there : taken ≡ list_any (λ other. number == other) old
  pub left : new ≡ (if taken then without number old else old)

-- The exchanges of a scan of both, with how many rows the field has for each.
abbrev pub choice_for : List IoDrop → ℕ → Choice
choice_for drops drop = record { drop = drop; many = choices_for drops (Some drop) }

abbrev pub choices_of_both : ControllerPlan → ControllerPlan → List Choice
choices_of_both old new = map (choice_for old.drops) (read_by_both old new)

-- The field has some row for each.
abbrev pub AreSome : List Choice → Type 0
AreSome choices = AllByRecursion (λ (choice : Choice). 1 ≤ choice.many) choices

-- In how many ways the field can bring rows in a scan of both.
abbrev pub ways_of : List Choice → ℕ
ways_of choices = product (map (λ (choice : Choice). choice.many) choices)

-- The exchanges of a scan in which the field brings rows in a way: the first has the last digit of
-- its number.
abbrev pub brought_by : List Choice → ℕ → List Exchange
brought_by [] way = []
brought_by (choice ∷ choices) way =
    record { drop = choice.drop; row = way % choice.many + 1 }
    ∷ brought_by choices (way / choice.many)

-- What the rows of an order of solve read.
abbrev pub read_at : List IoDrop → OrderRow → Read
read_at drops row = record { drop = row.input; many = choices_for drops row.input }

abbrev pub reads_of : ControllerPlan → List Read
reads_of plan = map (read_at plan.drops) plan.orders

-- The number of the row that the next exchange with a drop brings, and the exchanges without it.
abbrev pub next_brought : Option ℕ → List Exchange → ℕ
next_brought drop exchanges = next_row drop (field_of exchanges)

abbrev pub without_drop : ℕ → List Exchange → List Exchange
without_drop number [] = []
without_drop number (exchange ∷ exchanges) =
    if exchange.drop == number then exchanges else exchange ∷ without_drop number exchanges

abbrev pub without_next : Option ℕ → List Exchange → List Exchange
without_next None exchanges = exchanges
without_next (Some drop) exchanges = without_drop drop exchanges

-- Each row that is read is one of those that the field has for it.
abbrev pub InRange : List Read → List Exchange → Type 0
InRange [] exchanges = Unit {0}
InRange (read ∷ reads) exchanges =
    (1 ≤ next_brought read.drop exchanges) × (next_brought read.drop exchanges ≤ read.many)
    × InRange reads (without_next read.drop exchanges)

-- The way in which exchanges bring rows where these are read, and how many ways there are.
abbrev pub way_in : List Read → List Exchange → ℕ
way_in [] exchanges = 0
way_in (read ∷ reads) exchanges =
    next_brought read.drop exchanges - 1
    + read.many * way_in reads (without_next read.drop exchanges)

abbrev pub product_of : List Read → ℕ
product_of reads = product (map (λ (read : Read). read.many) reads)
