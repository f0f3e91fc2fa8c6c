-- Lemmas of end_laws, for those that stand on this crate.
pub use Rattle.end_laws.proofs.Complete.{end-complete}
