-- Words of ladder_solver, for those that stand on this crate. All of it is this project's own.
pub use Rattle.ladder_solver.specs.Laws.{SegmentsKeepCalls}
pub use Rattle.ladder_solver.specs.Numbers.{mstr_blocks}
pub use Rattle.ladder_solver.specs.State.{SolveState}
pub use Rattle.ladder_solver.specs.Segment.{segment_after}
