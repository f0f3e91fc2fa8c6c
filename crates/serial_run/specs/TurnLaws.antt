-- Words of turn_laws, for those that stand on this crate. All of it is this project's own.
pub use Rattle.bridge_station.specs.TurnLaws.{is_out_of_ring, KeepsOn, NoneSpent, StandsTied}
pub use Rattle.bridge_station.specs.TurnLaws.{ControllersComplete, HostsComplete}
