-- Words of side_runs, for those that stand on this crate. All of it is this project's own.
pub use Rattle.side_runs.specs.Beside.{pair_after, AreAlikePairs, PlaySideBySide, StatePair}
pub use Rattle.side_runs.specs.Beside.{TakeOneField}
pub use Rattle.side_runs.specs.Brought.{Brings, NamesRows, ScanField}
