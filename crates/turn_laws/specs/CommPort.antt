-- Words of comm_port, for those that stand on this crate. All of it is this project's own.
pub use Rattle.comm_port.specs.Giving.{each_path, part_at}
pub use Rattle.comm_port.specs.Order.{IsSending}
pub use Rattle.comm_port.specs.Parts.{InOrder, PartOf}
pub use Rattle.comm_port.specs.SendsAll.{IsNextSending}
pub use Rattle.comm_port.specs.Leaving.{cause_due, is_due, last_entry}
pub use Rattle.comm_port.specs.HostStands.{own_side}
