-- Lemmas of net_laws, for those that stand on this crate.
pub use Rattle.net_laws.proofs.Apart.{same-controller}
