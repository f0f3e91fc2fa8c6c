use Rattle.std.proofs.Common.{take, All}
use Rattle.plant_types.specs.Plans.{IsNode}
use Rattle.plant_types.proofs.net.are_nodes.Given as goal

abbrev pub invariant-loop-at : goal.invariant-loop-at
invariant-loop-at l = All IsNode (take l.at l.nodes)
