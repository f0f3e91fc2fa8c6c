use Rattle.std.proofs.Common.{◌≡◌, ◌++◌, map, take, drop}
use Rattle.ring_core.specs.Machine.{aged}
use Rattle.ring_core.proofs.node.Node.pass.Given as goal

abbrev pub invariant-loop-path : goal.invariant-loop-path
invariant-loop-path l = l.path-items
    ≡ map aged (take l.path-index l.initial.path-items) ++ drop l.path-index l.initial.path-items
