-- Words of reply_laws, for those that stand on this crate. All of it is this project's own.
pub use Rattle.reply_laws.specs.Result.{result_of}
