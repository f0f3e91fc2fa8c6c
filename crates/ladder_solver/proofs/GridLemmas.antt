-- What holds of the elements of a plan holds of those that its grids list.
use Rattle.std.proofs.Common.{◌≡◌, ℕ, ◌+◌, ◌≤◌, zero, suc, Bool, true, false, cond, ◌&&◌, ◌==◌}
use Rattle.std.proofs.Common.{nat_le, List, [], ◌∷◌, Option, Some, None, refl, arith}
use Rattle.std.specs.Prelude.{find, map, IfSome}
use Rattle.std.specs.List.{AllByRecursion}
use Rattle.std.proofs.lemmas.Bool.Decides.{nat_tests}
use Rattle.plant_types.specs.declared.element.Element.{Element}
use Rattle.plant_types.specs.declared.element.Element.TheVariants.{Open, Closed, Rise, Fall, Coil}
use Rattle.plant_types.specs.declared.element.Element.TheVariants.{Latch, Wire, Timer, Counter}
use Rattle.plant_types.specs.declared.element.Element.TheVariants.{Math, Move, Matrix, Skip, Label}
use Rattle.plant_types.specs.declared.element.Element.TheVariants.{Call, Return, Mstr}
use Rattle.plant_types.specs.declared.network.Cell.{Cell}
use Rattle.plant_types.specs.declared.network.Network.{Network}
use Rattle.plant_types.specs.declared.network.Segment.{Segment}
use Rattle.plant_types.specs.Operands.{HasOperands}
use Rattle.plant_types.specs.Checks.{EachOfCells, EachOfNetworks, EachOfSegments}
use Rattle.plant_types.specs.Slots.{label_limit}
use Rattle.plant_types.specs.Store.{Contents}
use Rattle.grid_compile.specs.declared.grid.Op.{Op}
use Rattle.grid_compile.specs.declared.grid.Column.{Column}
use Rattle.grid_compile.specs.declared.grid.Grid.{Grid}
use Rattle.grid_compile.specs.Cells.{cell_at, before, cells_from}
use Rattle.grid_compile.specs.Layout.{op_of, columns_from, grid_of, grids_of}
use Rattle.ladder_solver.specs.Subroutine.{label_number}
use Rattle.ladder_solver.specs.Program.{label_of_op, label_in_columns, label_in}
use Rattle.ladder_solver.specs.Program.{HasLabels}
use Rattle.ladder_solver.specs.Conditions.{EachOfColumns, EachOfGrids, EachInGrids}
use Rattle.ladder_solver.proofs.Steps.{each_found}

-- a cell that was found, and others
before_such : (Such : Element → Type 0) (found : Option Cell) (cells : List Cell)
    → ((cell : Cell) → found ≡ Some cell → Such cell.element)
    → AllByRecursion (λ op. Such op.element) (map op_of cells)
    → AllByRecursion (λ op. Such op.element) (map op_of (before found cells))
before_such Such None cells here rest = rest
before_such Such (Some cell) cells here rest = (here cell refl, rest)

-- the cells of a column
cells_such : (Such : Element → Type 0) (cells : List Cell) (column row count : ℕ)
    → EachOfCells Such cells
    → AllByRecursion (λ op. Such op.element) (map op_of (cells_from cells column row count))
unfolding cells_from
cells_such Such cells column row zero all = tt
cells_such Such cells column row (suc count) all =
    before_such Such (cell_at cells column row) (cells_from cells column (row + 1) count)
    (λ cell e. each_found Such (λ c. (c.column == column) && (c.row == row)) cells cell all e)
    (cells_such Such cells column (row + 1) count all)

-- those of all columns
columns_such : (Such : Element → Type 0) (network : Network) (column count : ℕ)
    → EachOfCells Such network.cells
    → EachOfColumns Such (columns_from network column count)
unfolding columns_from
columns_such Such network column zero all = tt
columns_such Such network column (suc count) all =
    (cells_such Such network.cells column 1 7 all, columns_such Such network (column + 1) count all)

networks_such : (Such : Element → Type 0) (networks : List Network) → EachOfNetworks Such networks
    → EachOfGrids Such (map grid_of networks)
networks_such Such [] all = tt
networks_such Such (network ∷ networks) all =
    (columns_such Such network 1 11 all.0, networks_such Such networks all.1)

-- those of all segments
pub each_in_grids : (Such : Element → Type 0) (segments : List Segment)
    → EachOfSegments Such segments → EachInGrids Such (grids_of segments)
each_in_grids Such [] all = tt
each_in_grids Such (segment ∷ segments) all =
    (networks_such Such segment.networks all.0, each_in_grids Such segments all.1)

within_length : (most n : ℕ) → (nat_le 1 n && nat_le n most) && true ≡ true → n ≤ most
within_length most n h = grind (arith, nat_tests)

-- the number of a LAB
small_label : (m : Contents) (element : Element) → HasOperands m element
    → IfSome (label_number element) (λ number. number ≤ label_limit)
small_label m (Open at) h = tt
small_label m (Closed at) h = tt
small_label m (Rise at) h = tt
small_label m (Fall at) h = tt
small_label m (Coil at) h = tt
small_label m (Latch at) h = tt
small_label m Wire h = tt
small_label m (Timer unit preset acc) h = tt
small_label m (Counter up preset acc) h = tt
small_label m (Math op top mid low) h = tt
small_label m (Move op top mid length) h = tt
small_label m (Matrix op top mid length) h = tt
small_label m (Skip count) h = tt
small_label m (Label number) h = within_length label_limit number h.values
small_label m (Call number) h = tt
small_label m Return h = tt
small_label m (Mstr control area length) h = tt

-- the first of a column's cells that passes a test
choice_small : (b : Bool) (op : Op) (rest : Option Op)
    → IfSome (label_number op.element) (λ number. number ≤ label_limit)
    → IfSome (label_of_op rest) (λ number. number ≤ label_limit)
    → IfSome (label_of_op (cond b (Some op) rest)) (λ number. number ≤ label_limit)
choice_small true op rest here later = here
choice_small false op rest here later = later

ops_small : (m : Contents) (test : Op → Bool) (ops : List Op)
    → AllByRecursion (λ op. HasOperands m op.element) ops
    → IfSome (label_of_op (find test ops)) (λ number. number ≤ label_limit)
ops_small m test [] all = tt
ops_small m test (op ∷ ops) all = choice_small (test op) op (find test ops)
    (small_label m op.element all.0) (ops_small m test ops all.1)

columns_small : (m : Contents) (columns : List Column) → EachOfColumns (HasOperands m) columns
    → IfSome (label_in_columns columns) (λ number. number ≤ label_limit)
columns_small m [] all = tt
columns_small m (laid ∷ columns) all = ops_small m (λ op. op.row == 1) laid.ops all.0

grids_small : (m : Contents) (grids : List Grid) → EachOfGrids (HasOperands m) grids
    → AllByRecursion (λ grid. IfSome (label_in grid) (λ number. number ≤ label_limit)) grids
grids_small m [] all = tt
grids_small m (grid ∷ grids) all = (columns_small m grid.columns all.0, grids_small m grids all.1)

-- the numbers of the LABs of grids
pub has_labels : (m : Contents) (segments : List (List Grid)) → EachInGrids (HasOperands m) segments
    → HasLabels segments
has_labels m [] all = tt
has_labels m (grids ∷ segments) all = (grids_small m grids all.0, has_labels m segments all.1)
