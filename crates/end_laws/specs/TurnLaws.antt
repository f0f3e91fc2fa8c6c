-- Words of turn_laws, for those that stand on this crate. All of it is this project's own.
pub use Rattle.turn_laws.specs.EntryCauses.{HostInTime, InTime, IsControllerInTime, IsHostInTime}
pub use Rattle.turn_laws.specs.EntryCauses.{IsInOneOrder, JointIsInOneOrder, StationsAreInTime}
pub use Rattle.turn_laws.specs.KeepsOn.{is_out_of_ring, leaves_out, HostKeepsOn, HostStandsTied}
pub use Rattle.turn_laws.specs.KeepsOn.{KeepsOn, NoneSpent, StandsTied}
pub use Rattle.turn_laws.specs.Laws.{ControllersComplete, EndsWhere, HostsComplete, SomebodyHolds}
pub use Rattle.turn_laws.specs.Laws.{StandsAs}
