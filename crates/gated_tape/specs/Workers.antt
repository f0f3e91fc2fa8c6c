-- What a worker with two sides leaves. All of it is this project's own.
use Rattle.std.specs.Prelude.{◌≡◌, ◌⊎◌, ℕ, ◌+◌, ◌≤◌, Bool, List, length, Result, Err, OnOk}
use Rattle.gated_tape.specs.declared.tapes.Mark.{Mark}
use Rattle.gated_tape.specs.declared.refusals.PutNo.{PutNo}
use Rattle.gated_tape.specs.declared.refusals.PutNo.TheVariants.{Full}
use Rattle.gated_tape.specs.Marks.{node_of, mark_count}
use Rattle.gated_tape.specs.Sides.{Frame, GoesOnBy}

-- a side went on by some marks of the node, and by those of others where it is not alone; its
-- frame is the same
pub record Worked {P : Type 0} (alone : Bool) (node : ℕ) (old : Frame P) (before : List Mark)
    (new : Frame P) (after : List Mark) : Type 0 where
  pub added : List Mark
  pub went : GoesOnBy alone node_of node before added after
  pub same : new ≡ old

-- where the work is done, each side has `count` marks of the node; at each ending the second has
-- as many as the first or one less; where it ended with Full, one of the tapes is full
pub record WriterEnded {T P Q : Type 0} (node count : ℕ) (result : Result T PutNo)
    (at_one : Frame P) (one : List Mark) (at_two : Frame Q) (two : List Mark) : Type 0 where
  pub done_one : OnOk result (mark_count node one ≡ count)
  pub done_two : OnOk result (mark_count node two ≡ count)
  pub not_ahead : mark_count node two ≤ mark_count node one
  pub not_behind : mark_count node one ≤ mark_count node two + 1
  pub full : result ≡ Err Full → (length one ≡ at_one.limit) ⊎ (length two ≡ at_two.limit)
