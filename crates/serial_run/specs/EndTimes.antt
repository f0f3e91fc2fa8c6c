-- Words of end_times, for those that stand on this crate. All of it is this project's own.
pub use Rattle.bridge_station.specs.EndTimes.{AreBridgesInTime}
