-- Words of entry_causes, for those that stand on this crate. All of it is this project's own.
pub use Rattle.bridge_station.specs.TurnLaws.{IsInOneOrder, JointIsInOneOrder}
