-- Writers over sides of their own, and what a run of them leaves. All of it is this project's own.
use Rattle.std.specs.Prelude.{◌≡◌, ℕ, List, All, Some, map}
use Rattle.gated_tape.specs.declared.tapes.Mark.{Mark}
use Rattle.gated_tape.specs.declared.runs.Writer.{Writer}
use Rattle.gated_tape.specs.Marks.{mark_count}
use Rattle.gated_tape.specs.Sides.{Frame}
use Rattle.gated_tape.specs.Workers.{WriterEnded}

-- what a run leaves of a writer as it is: its node, and the frames of its sides
pub record Card (P : Type 0) : Type 0 where
  pub node : ℕ
  pub one : Frame P
  pub two : Frame P

module _ {S P : Type 0} (frame : S → Frame P) (known : S → List Mark) where
  -- the card of a writer
  abbrev pub card_of : Writer S → Card P
  card_of w = record { node = w.node; one = frame w.one; two = frame w.two }

  -- the writer writes in its node's name alone, and knows no mark of the node
  pub record IsFreshWriter (w : Writer S) : Type 0 where
    pub serves_one : (frame w.one).writer ≡ Some w.node
    pub serves_two : (frame w.two).writer ≡ Some w.node
    pub unwritten_one : mark_count w.node (known w.one) ≡ 0
    pub unwritten_two : mark_count w.node (known w.two) ≡ 0

  -- the writer knows how its work ended
  abbrev pub HasEnded : ℕ → Writer S → Type 0
  HasEnded count w =
      WriterEnded w.node count w.ended (frame w.one) (known w.one) (frame w.two) (known w.two)

  -- each writer ran, and is as it was
  pub record EachWriterRan (count : ℕ) (old new : List (Writer S)) : Type 0 where
    pub ended : All (HasEnded count) new
    pub cards : map card_of new ≡ map card_of old
