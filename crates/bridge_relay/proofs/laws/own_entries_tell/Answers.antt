use Rattle.bridge_relay.proofs.Parts.{own_tell}
use Rattle.bridge_relay.proofs.laws.own_entries_tell.Goals as goal

pub returns : goal.returns
returns c = own_tell
