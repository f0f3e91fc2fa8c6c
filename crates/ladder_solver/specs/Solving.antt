-- What the solve of a segment asks of what it is lent, and what it leaves.
use Rattle.std.specs.Prelude.{◌≡◌, ℕ, ◌≤◌, ◌<◌, length}
use Rattle.plant_types.specs.Discretes.{discretes_on}
use Rattle.plant_types.specs.Store.{Contents, Keeps}
use Rattle.timer_ops.specs.declared.Clock.{Clock}
use Rattle.mstr_block.specs.Table.{BlockTable}
use Rattle.ladder_solver.specs.declared.watch.Watch.{Watch}
use Rattle.ladder_solver.specs.Conditions.{HasGridOperands, HasGridPast}
use Rattle.ladder_solver.specs.Ladder.{HasSegments, SolvesSegment}
use Rattle.ladder_solver.specs.Numbers.{mstr_count}
use Rattle.ladder_solver.specs.State.{LadderState, solve_state}

-- A segment can be solved: the ladder has it, the store and the discretes as the last scan ended
-- have what each cell asks, each MSTR block has its place in the table, and networks are left to
-- the watchdog. This project's own.
pub record IsSolvableSegment (ladder : LadderState) (segment : ℕ) (store before : Contents)
    (bank : BlockTable) (watch : Watch) : Type 0 where
  pub first : 0 < segment
  pub last : segment ≤ length ladder.grids
  pub operands : HasGridOperands store ladder.grids
  pub past : HasGridPast before ladder.grids
  pub blocks : mstr_count ladder.grids ≤ length bank.blocks
  pub left : 0 < watch.left

-- A segment was solved: the store, the edge bits, the MSTR blocks and the networks left are those
-- that it gives for all segments that have these grids, and there are such segments; the grids, the
-- store's references and the number of MSTR blocks stay. This project's own.
pub record IsSolved (segment : ℕ) (clock : Clock) (past : Contents) (old new : LadderState)
    (store left : Contents) (bank bank_left : BlockTable) (watch watch_left : Watch) : Type 0 where
  pub same : new.grids ≡ old.grids
  pub keeps : Keeps store left
  pub listed : HasSegments old.grids
  pub solved : SolvesSegment old.grids segment
      (solve_state store (discretes_on past) old.edges bank clock watch.left)
      (solve_state left (discretes_on past) new.edges bank_left clock watch_left.left)
  pub blocks : length bank_left.blocks ≡ length bank.blocks
