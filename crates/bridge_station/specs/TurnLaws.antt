-- Words of turn_laws, for those that stand on this crate. All of it is this project's own.
pub use Rattle.end_laws.specs.TurnLaws.{is_out_of_ring, leaves_out, ControllersComplete, EndsWhere}
pub use Rattle.end_laws.specs.TurnLaws.{HostInTime, HostKeepsOn, HostStandsTied, HostsComplete}
pub use Rattle.end_laws.specs.TurnLaws.{InTime, IsControllerInTime, IsHostInTime, IsInOneOrder}
pub use Rattle.end_laws.specs.TurnLaws.{JointIsInOneOrder, KeepsOn, NoneSpent, SomebodyHolds}
pub use Rattle.end_laws.specs.TurnLaws.{StandsAs, StandsTied, StationsAreInTime}
