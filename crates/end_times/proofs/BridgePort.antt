-- Lemmas of bridge_port, for those that stand on this crate.
pub use Rattle.bridge_port.proofs.Standings.{ready-across, ready-new, ready-ring}
pub use Rattle.bridge_port.proofs.Across.{across-stays, legal-front}
