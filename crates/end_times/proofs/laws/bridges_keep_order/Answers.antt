use Rattle.end_times.proofs.Inside.{keeps-order}
use Rattle.end_times.proofs.laws.bridges_keep_order.Goals as goal

pub returns : goal.returns
returns c = keeps-order
