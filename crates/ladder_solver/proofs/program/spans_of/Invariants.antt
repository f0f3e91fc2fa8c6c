use Rattle.ladder_solver.proofs.Subroutines.{Behind}
use Rattle.ladder_solver.proofs.program.spans_of.Given as goal

-- the spans of the networks behind this one, and where the next LAB stands
abbrev pub invariant-loop-first : goal.invariant-loop-first
invariant-loop-first l = Behind l.grids l.first l.spans.items l.end
