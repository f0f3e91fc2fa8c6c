use Rattle.input_cuts.proofs.CutLemmas.{NoneBefore}
use Rattle.input_cuts.proofs.cutting.mark_place.Given as goal

abbrev pub invariant-loop-at : goal.invariant-loop-at
invariant-loop-at l = NoneBefore l.mark l.input l.at
