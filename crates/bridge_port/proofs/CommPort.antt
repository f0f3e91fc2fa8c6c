-- Lemmas of comm_port, for those that stand on this crate.
pub use Rattle.comm_port.proofs.Leaves.{quiet-due}
pub use Rattle.comm_port.proofs.Parts.{each-added}
pub use Rattle.comm_port.proofs.TurnEnds.{words-as}
