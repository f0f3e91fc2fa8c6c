use Rattle.std.proofs.Common.{◌≡◌, vec_len, vec_capacity}
use Rattle.turn_gate.specs.Known.{first_pass}
use Rattle.gated_tape.specs.Crews.{count_down, AreDealt}
use Rattle.gated_tape.proofs.crews.deal.Given as goal

abbrev pub invariant-loop-index : goal.invariant-loop-index
invariant-loop-index g l = record {
  one_is : l.zero ≡ record (first_pass l.one.name) { given = count_down l.index };
  two_is : l.second_zero ≡ record (first_pass l.two.name) { given = count_down l.index };
  filled : vec_len l.room ≡ l.index;
  capacity : vec_capacity l.room ≡ l.writers;
  dealt : AreDealt l.one l.two (count_down l.index) l.room.items;
}
