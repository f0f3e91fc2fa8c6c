-- Words of comm_port, for those that stand on this crate. All of it is this project's own.
pub use Rattle.serial_run.specs.CommPort.{IsGivingUp}
