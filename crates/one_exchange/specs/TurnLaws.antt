-- Words of turn_laws, for those that stand on this crate. All of it is this project's own.
pub use Rattle.one_run.specs.TurnLaws.{NoneSpent}
