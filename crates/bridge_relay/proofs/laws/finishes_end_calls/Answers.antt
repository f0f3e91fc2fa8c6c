use Rattle.bridge_relay.proofs.Calls.{finishes_end}
use Rattle.bridge_relay.proofs.laws.finishes_end_calls.Goals as goal

pub returns : goal.returns
returns c = finishes_end
