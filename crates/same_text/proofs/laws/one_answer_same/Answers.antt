use Rattle.std.proofs.Common.{length, arith}
use Rattle.same_text.proofs.OneCount.{count-one}
use Rattle.same_text.proofs.OneDifference.{one-difference}
use Rattle.same_text.proofs.Runs.{runs-beside}
use Rattle.same_text.proofs.laws.one_answer_same.Goals as goal

pub returns : goal.returns
returns c = record {
  count = count-one;
  apart = λ old new limit pairs runs same first.
      first.apart (same.same runs.one runs.other (length runs.brought)
      (runs-beside old new limit runs first (length runs.brought) (omega arith)) first.within);
  difference = one-difference;
}
