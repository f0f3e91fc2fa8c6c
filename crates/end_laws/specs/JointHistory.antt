-- Words of joint_history, for those that stand on this crate. All of it is this project's own.
pub use Rattle.joint_history.specs.JointLaws.{IsLegalBridgeLog, IsTiedBridge}
pub use Rattle.joint_history.specs.Bridges.{made_at_end}
pub use Rattle.joint_history.specs.Complete.{EndIsComplete}
pub use Rattle.joint_history.specs.declared.joint.BridgeLog.{BridgeLog}
