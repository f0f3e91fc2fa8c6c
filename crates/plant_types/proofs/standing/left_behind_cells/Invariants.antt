use Rattle.std.proofs.Common.{◌≡◌, ◌-◌, take}
use Rattle.plant_types.specs.Standing.{message_count}
use Rattle.plant_types.proofs.standing.left_behind_cells.Given as goal

-- what is left behind the cells so far
abbrev pub invariant-loop-cell : goal.invariant-loop-cell
invariant-loop-cell l = l.left ≡ l.initial.left - message_count (take l.cell-index l.cells)
