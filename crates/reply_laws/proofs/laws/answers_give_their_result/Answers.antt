use Rattle.reply_laws.proofs.Whole.{answers}
use Rattle.reply_laws.proofs.laws.answers_give_their_result.Goals as goal

pub returns : goal.returns
returns c = answers
