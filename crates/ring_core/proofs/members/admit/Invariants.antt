use Rattle.std.proofs.Common.{◌≡◌, ◌++◌, map, take, drop}
use Rattle.ring_core.specs.Machine.{admitted}
use Rattle.ring_core.proofs.members.admit.Given as goal

abbrev pub invariant-loop-node : goal.invariant-loop-node
invariant-loop-node l = l.node-items
    ≡ map admitted (take l.node-index l.initial.node-items)
    ++ drop l.node-index l.initial.node-items
