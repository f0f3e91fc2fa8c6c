use Rattle.bridge_relay.proofs.Calls.{new_calls}
use Rattle.bridge_relay.proofs.laws.forwards_make_new_calls.Goals as goal

pub returns : goal.returns
returns c = new_calls
