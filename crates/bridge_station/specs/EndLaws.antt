-- Words of end_laws, for those that stand on this crate. All of it is this project's own.
pub use Rattle.end_laws.specs.EndKeeps.{EndKeepsOn}
