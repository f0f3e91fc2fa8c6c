use Rattle.std.proofs.Common.{take}
use Rattle.cone_of.specs.Growing.{AddsAll}
use Rattle.cone_of.proofs.cone.Cone.add_all.Given as goal

abbrev pub invariant-loop-at : goal.invariant-loop-at
invariant-loop-at l = AddsAll (take l.at-index l.refs) l.fn.self l.self
