-- Lemmas of tied_lists, for those that stand on this crate.
pub use Rattle.tied_lists.proofs.Histories.{length-arrived}
