-- Words of joint_history, for those that stand on this crate. All of it is this project's own.
pub use Rattle.joint_history.specs.Bridges.{back_of, backs_of, made_at_end, side_item_next}
pub use Rattle.joint_history.specs.Bridges.{side_items, side_items_after}
pub use Rattle.joint_history.specs.declared.joint.BridgeLog.{BridgeLog}
pub use Rattle.joint_history.specs.declared.joint.Joint.{Joint}
pub use Rattle.joint_history.specs.Nets.{noted_on_rings}
pub use Rattle.joint_history.specs.Reading.{called_of, failures_at, has_started_at, is_off_at}
pub use Rattle.joint_history.specs.Reading.{is_ours, item_next, items_after, items_of}
