-- Words of field_machine, for those that stand on this crate. All of it is this project's own.
pub use Rattle.field_machine.specs.FieldSearch.{IsAlone}
pub use Rattle.field_machine.specs.declared.exchanges.Exchange.{Exchange}
pub use Rattle.field_machine.specs.Never.{state_of_run}
