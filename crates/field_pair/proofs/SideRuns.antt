-- Lemmas of side_runs, for those that stand on this crate.
pub use Rattle.side_runs.proofs.Standing.{alike-then}
pub use Rattle.side_runs.proofs.Pairs.{run-starts}
