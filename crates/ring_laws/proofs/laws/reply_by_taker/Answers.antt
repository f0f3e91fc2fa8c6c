use Rattle.ring_laws.proofs.Law.{reply-by-taker}
use Rattle.ring_laws.proofs.laws.reply_by_taker.Goals as goal

pub returns : goal.returns
returns c = reply-by-taker
