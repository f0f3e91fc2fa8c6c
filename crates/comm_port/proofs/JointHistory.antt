-- Lemmas of joint_history, for those that stand on this crate.
pub use Rattle.joint_history.proofs.Collected.{collected-new, CallLaws}
pub use Rattle.joint_history.proofs.Fails.{failures-are}
