-- Words of turn_laws, for those that stand on this crate. All of it is this project's own.
pub use Rattle.turn_laws.specs.KeepsOn.{leaves_spent, NoneSpent}
pub use Rattle.turn_laws.specs.Laws.{ControllersComplete, HostsComplete}
