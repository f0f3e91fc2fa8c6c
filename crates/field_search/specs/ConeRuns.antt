-- Words of cone_runs, for those that stand on this crate. All of it is this project's own.
pub use Rattle.cone_runs.specs.AlikeIn.{IsAlikeIn}
