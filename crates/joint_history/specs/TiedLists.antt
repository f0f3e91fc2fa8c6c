-- Words of tied_lists, for those that stand on this crate. All of it is this project's own.
pub use Rattle.tied_lists.specs.Own.{is_of, own}
pub use Rattle.tied_lists.specs.Waits.{status_at}
