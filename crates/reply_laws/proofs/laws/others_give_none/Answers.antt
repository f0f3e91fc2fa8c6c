use Rattle.reply_laws.proofs.Whole.{others}
use Rattle.reply_laws.proofs.laws.others_give_none.Goals as goal

pub returns : goal.returns
returns c = others
