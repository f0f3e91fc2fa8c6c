-- The input exchanges of a scan of both. All of it is this project's own.
use Rattle.std.specs.Prelude.{◌≡◌, ◌≤◌, ℕ, ◌==◌, if◌then◌else◌, List, [], ◌∷◌, ◌++◌, map}
use Rattle.std.specs.Prelude.{unwrap_or, slice_get}
use Rattle.std.specs.List.{AllByRecursion, filter_map, list_any}
use Rattle.plant_types.specs.declared.drops.IoDrop.{IoDrop}
use Rattle.plant_types.specs.declared.plan.ControllerPlan.{ControllerPlan}
use Rattle.traffic_cop.specs.Drops.{drop_named}
use Rattle.field_runs.specs.Told.{rows_for}
use Rattle.field_machine.specs.declared.exchanges.Exchange.{Exchange}
use Rattle.field_machine.specs.Exchanges.{row_to}
use Rattle.side_runs.specs.Brought.{ScanField}

-- The drops that a scan reads, one for each of its input exchanges, in their order.
abbrev pub drops_read : ControllerPlan → List ℕ
drops_read plan = filter_map (λ row. row.input) plan.orders

-- A list of drops without the first that has a number.
abbrev pub without : ℕ → List ℕ → List ℕ
without number [] = []
without number (drop ∷ drops) = if number == drop then drops else drop ∷ without number drops

-- The drops of a list beyond those of another: each of these stands for one of them.
abbrev pub beyond : List ℕ → List ℕ → List ℕ
beyond [] others = []
beyond (drop ∷ drops) others =
    if list_any (λ other. drop == other) others
    then beyond drops (without drop others)
    else drop ∷ beyond drops others

-- The drops that a scan of both reads: those of the old one's exchanges in their order, and then
-- those of the exchanges that the new one alone has, in theirs.
abbrev pub read_by_both : ControllerPlan → ControllerPlan → List ℕ
read_by_both old new = drops_read old ++ beyond (drops_read new) (drops_read old)

-- An exchange brings a drop one of its rows.
pub record BringsRow (drops : List IoDrop) (exchange : Exchange) : Type 0 where
  pub from : 1 ≤ exchange.row
  pub to : exchange.row ≤ rows_for (drop_named drops exchange.drop)

-- These are the exchanges of a scan of both, and each brings a row of the old one's drop.
pub record AreOfBoth (old new : ControllerPlan) (exchanges : List Exchange) : Type 0 where
  pub drops : map (λ exchange. exchange.drop) exchanges ≡ read_by_both old new
  pub rows : AllByRecursion (BringsRow old.drops) exchanges

-- What a field brings in a scan by its exchanges: each drop has its rows in their order.
abbrev pub field_of : List Exchange → ScanField
field_of exchanges drop nth =
    unwrap_or (slice_get (filter_map (row_to drop) exchanges) nth) 1
