use Rattle.controller_core.proofs.FeedingLemmas.{rows-keep}
use Rattle.controller_core.proofs.laws.rows_keep_histories.Goals as goal

pub returns : goal.returns
returns c = rows-keep
