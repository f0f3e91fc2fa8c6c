-- Lemmas of bridge_port, for those that stand on this crate.
pub use Rattle.end_times.proofs.BridgePort.{ready-across, ready-new, ready-ring}
