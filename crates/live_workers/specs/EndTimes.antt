-- Words of end_times, for those that stand on this crate. All of it is this project's own.
pub use Rattle.end_laws.specs.EndTimes.{AreBridgesInTime, EndInTime, IsBridgeInTime, IsEndInTime}
