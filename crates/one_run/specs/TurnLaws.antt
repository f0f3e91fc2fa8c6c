-- Words of turn_laws, for those that stand on this crate. All of it is this project's own.
pub use Rattle.serial_run.specs.TurnLaws.{is_out_of_ring, NoneSpent}
