-- What stays true of the calls of MSTR blocks while a segment is solved. This project's own.
use Rattle.std.specs.Prelude.{ℕ, List}
use Rattle.plant_types.specs.declared.network.Segment.{Segment}
use Rattle.mstr_block.specs.Running.{IsTable}
use Rattle.mstr_block.specs.Laws.{KeepsCalls, GivesNewNumbers}
use Rattle.ladder_solver.specs.State.{SolveState}
use Rattle.ladder_solver.specs.Segment.{segment_after}

-- A call that was started or is out still is, each new call has a number above all before it, and a
-- table of calls stays one.
pub record SegmentsKeepCalls : Type 0 where
  pub calls : (segments : List Segment) (number : ℕ) (s : SolveState)
      → KeepsCalls s.table (segment_after segments number s).table
  pub numbers : (segments : List Segment) (number : ℕ) (s : SolveState)
      → GivesNewNumbers s.table (segment_after segments number s).table
  pub table : (segments : List Segment) (number : ℕ) (s : SolveState)
      → IsTable s.table → IsTable (segment_after segments number s).table
