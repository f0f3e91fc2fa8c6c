-- Words of runs and of word exchanges, for what is answered about them. All of it is this project's
-- own.
pub use Rattle.one_run.specs.OneRun.{IsRunOf, OneSerialRun}
pub use Rattle.word_exchange.specs.Exchange.{IsExchange}
pub use Rattle.word_exchange.specs.Wired.{AreWiresOf}
