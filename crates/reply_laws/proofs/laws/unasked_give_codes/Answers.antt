use Rattle.reply_laws.proofs.Asked.{unasked}
use Rattle.reply_laws.proofs.laws.unasked_give_codes.Goals as goal

pub returns : goal.returns
returns c = unasked
