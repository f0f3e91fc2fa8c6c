use Rattle.std.proofs.Common.{◌≡◌, map, take}
use Rattle.bridge_relay.specs.Machine.{unsent}
use Rattle.bridge_relay.proofs.relay.unsent.Given as goal

abbrev pub invariant-loop-at : goal.invariant-loop-at
invariant-loop-at l = l.replies.items ≡ map unsent (take l.at l.items.items)
