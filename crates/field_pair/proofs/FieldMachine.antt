-- Lemmas of field_machine, for those that stand on this crate.
pub use Rattle.field_machine.proofs.Items.{next-in, none-left}
