use Rattle.bridge_relay.proofs.Calls.{numbers_count}
use Rattle.bridge_relay.proofs.laws.numbers_count.Goals as goal

pub returns : goal.returns
returns c = numbers_count
