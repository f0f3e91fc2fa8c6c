-- Words of entry_causes, for those that stand on this crate. All of it is this project's own.
pub use Rattle.entry_causes.specs.Joint.{IsControllerInTime, IsHostInTime, IsInOneOrder}
pub use Rattle.entry_causes.specs.Joint.{JointIsInOneOrder, StationsAreInTime}
pub use Rattle.entry_causes.specs.InTime.{HostInTime, InTime}
