-- Words of serial_run, for those that stand on this crate. All of it is this project's own.
pub use Rattle.one_run.specs.SerialRun.{IsSerial}
