use Rattle.std.proofs.Common.{◌≡◌, All, vec_len}
use Rattle.gated_tape.specs.Sides.{gated_frame}
use Rattle.gated_tape.specs.Runs.{HasEnded}
use Rattle.gated_tape.specs.Crews.{seen_of, cards_of, IsCardOver, AreGathering}
use Rattle.gated_tape.proofs.crews.gather.Given as goal

abbrev pub invariant-loop-writer : goal.invariant-loop-writer
invariant-loop-writer g l = record {
  ended_each : All (HasEnded gated_frame seen_of l.count) l.writers.items;
  at : All (IsCardOver l.one l.two) (cards_of l.writers.items);
  gathering : AreGathering l.one l.two l.count l.ended l.writers.items l.zero l.second_zero;
  given_one : l.zero.given ≡ l.fn.passes.one.given;
  given_two : l.second_zero.given ≡ l.fn.passes.two.given;
}

abbrev pub decreases-loop-writer : goal.decreases-loop-writer
decreases-loop-writer g l = vec_len l.writers
