use Rattle.traffic_cop.proofs.FeedingLemmas.{rows-later}
use Rattle.traffic_cop.proofs.feeding.rows_come_later.Goals as goal

pub returns : goal.returns
returns c = rows-later
