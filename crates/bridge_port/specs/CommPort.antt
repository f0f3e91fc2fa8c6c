-- Words of comm_port, for those that stand on this crate. All of it is this project's own.
pub use Rattle.comm_port.specs.Stands.{HasGrown, RingStands}
pub use Rattle.comm_port.specs.HostStands.{own_side}
pub use Rattle.comm_port.specs.Leaving.{cause_due, last_entry, IsHere}
pub use Rattle.comm_port.specs.JointHistory.{made_at_end, noted_on_rings, BridgeLog, Joint}
pub use Rattle.comm_port.specs.Giving.{each_path, inbox_of}
pub use Rattle.comm_port.specs.HoldTurn.{overdue}
pub use Rattle.comm_port.specs.Order.{IsSending}
pub use Rattle.comm_port.specs.Parts.{InOrder, PartOf}
pub use Rattle.comm_port.specs.Replies.{reply_frame}
pub use Rattle.comm_port.specs.SendsAll.{IsNextSending}
pub use Rattle.comm_port.specs.Sides.{taken_entries}
