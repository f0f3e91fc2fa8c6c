use Rattle.std.proofs.Common.{take, All}
use Rattle.std.specs.List.{Contains}
use Rattle.plant_types.proofs.net.are_among.Given as goal

abbrev pub invariant-loop-at : goal.invariant-loop-at
invariant-loop-at l = All (Contains l.members) (take l.at l.nodes)
