use Rattle.ring_laws.proofs.Law.{reply-to-its-caller}
use Rattle.ring_laws.proofs.laws.reply_to_its_caller.Goals as goal

pub returns : goal.returns
returns c = reply-to-its-caller
