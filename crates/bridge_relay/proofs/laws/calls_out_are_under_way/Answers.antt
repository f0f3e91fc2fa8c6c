use Rattle.bridge_relay.proofs.Calls.{calls_under_way}
use Rattle.bridge_relay.proofs.laws.calls_out_are_under_way.Goals as goal

pub returns : goal.returns
returns c = calls_under_way
