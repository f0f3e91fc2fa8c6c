-- Words of joint_history, for those that stand on this crate. All of it is this project's own.
pub use Rattle.joint_history.specs.declared.joint.ControllerLog.{ControllerLog}
pub use Rattle.joint_history.specs.declared.joint.HostLog.{HostLog}
pub use Rattle.joint_history.specs.declared.joint.RingLog.{RingLog}
pub use Rattle.joint_history.specs.declared.joint.Joint.{Joint}
pub use Rattle.joint_history.specs.JointLaws.{IsLegalHostLog, IsLegalJoint, IsLegalLog}
pub use Rattle.joint_history.specs.Nets.{noted_on_rings}
