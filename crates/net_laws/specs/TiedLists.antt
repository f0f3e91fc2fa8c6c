-- Words of tied_lists, for those that stand on this crate. All of it is this project's own.
pub use Rattle.joint_history.specs.TiedLists.{own}
