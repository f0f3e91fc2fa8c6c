use Rattle.std.proofs.Common.{take}
use Rattle.cone_of.specs.Cone.{HasSegments}
use Rattle.cone_of.specs.Growing.{GrowsBy}
use Rattle.cone_of.proofs.cone.Cone.grow_segments.Given as goal

abbrev pub invariant-loop-segment : goal.invariant-loop-segment
invariant-loop-segment l =
    GrowsBy (λ set. HasSegments set (take l.segment-index l.segments)) l.grew l.fn.self l.self
