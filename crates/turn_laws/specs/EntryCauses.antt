-- Words of entry_causes, for those that stand on this crate. All of it is this project's own.
pub use Rattle.time_laws.specs.EntryCauses.{HostInTime, InTime, IsControllerInTime, IsHostInTime}
pub use Rattle.time_laws.specs.EntryCauses.{IsInOneOrder, JointIsInOneOrder, StationsAreInTime}
