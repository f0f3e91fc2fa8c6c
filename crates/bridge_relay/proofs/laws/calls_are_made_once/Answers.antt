use Rattle.bridge_relay.proofs.Calls.{calls_once}
use Rattle.bridge_relay.proofs.laws.calls_are_made_once.Goals as goal

pub returns : goal.returns
returns c = calls_once
