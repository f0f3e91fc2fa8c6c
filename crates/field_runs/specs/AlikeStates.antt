-- Words of alike_states, for those that stand on this crate. All of it is this project's own.
pub use Rattle.alike_states.specs.Alone.{HasNoMessages}
