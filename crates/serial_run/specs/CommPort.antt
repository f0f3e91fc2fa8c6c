-- Words of comm_port, for those that stand on this crate. All of it is this project's own.
pub use Rattle.comm_port.specs.HostStands.{own_side}
pub use Rattle.comm_port.specs.Worker.{Standing, WorkerIs}
pub use Rattle.comm_port.specs.Order.{IsGivingUp}
