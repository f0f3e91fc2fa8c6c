use Rattle.mstr_block.specs.Laws.{KeepsCalls, GivesNewNumbers}
use Rattle.mstr_block.specs.Running.{IsTable}
use Rattle.ladder_solver.proofs.Tables.{segment-keeps, calls-same, calls-then, numbers-same}
use Rattle.ladder_solver.proofs.Tables.{numbers-then}
use Rattle.ladder_solver.proofs.laws.segments_keep_calls.Goals as goal

pub returns : goal.returns
returns c = record {
  calls = segment-keeps KeepsCalls calls-same calls-then
      (λ table number control area room inputs m.
      c.solves_keep_calls.ensures table number
      (record { control = control; area = area; room = room }) inputs m);
  numbers = segment-keeps GivesNewNumbers numbers-same numbers-then
      (λ table number control area room inputs m.
      c.solves_give_new_numbers.ensures table number
      (record { control = control; area = area; room = room }) inputs m);
  table = segment-keeps (λ before after. IsTable before → IsTable after) (λ t h. h)
      (λ a b c one other h. other (one h))
      (λ table number control area room inputs m.
      c.stays_table.ensures.solved table number
      (record { control = control; area = area; room = room }) inputs m);
}
