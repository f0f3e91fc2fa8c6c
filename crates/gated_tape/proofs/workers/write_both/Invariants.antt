use Rattle.std.proofs.Common.{◌≡◌}
use Rattle.gated_tape.specs.Marks.{mark_count}
use Rattle.gated_tape.specs.Workers.{Worked}
use Rattle.gated_tape.proofs.workers.write_both.Given as goal

abbrev pub invariant-loop-word : goal.invariant-loop-word
invariant-loop-word g l = let A = g.A.Side in let B = g.B.Side in record {
  next_one : mark_count l.node (A.known l.one) ≡ l.word;
  next_two : mark_count l.node (B.known l.two) ≡ l.word;
  worked_one : Worked A.alone l.node (A.frame l.fn.one) (A.known l.fn.one) (A.frame l.one)
      (A.known l.one);
  worked_two : Worked B.alone l.node (B.frame l.fn.two) (B.known l.fn.two) (B.frame l.two)
      (B.known l.two);
}
