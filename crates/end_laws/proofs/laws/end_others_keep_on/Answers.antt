use Rattle.end_laws.proofs.Others.{end-others}
use Rattle.end_laws.proofs.laws.end_others_keep_on.Goals as goal

pub returns : goal.returns
returns c = end-others
