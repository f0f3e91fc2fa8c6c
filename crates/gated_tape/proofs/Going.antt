-- Lists that go on, and work that does.
use Rattle.std.proofs.Common.{ℕ, Bool, List, ◌++◌, ap, ◌∙◌, append_assoc}
use Rattle.gated_tape.specs.declared.tapes.Mark.{Mark}
use Rattle.gated_tape.specs.Marks.{node_of}
use Rattle.gated_tape.specs.Sides.{GoesOnBy, Frame}
use Rattle.gated_tape.specs.Workers.{Worked}
use Rattle.gated_tape.proofs.Marking.{own-append}

-- a list that went on twice went on by what was added together
pub went-twice : {E : Type 0} (maker : E → ℕ) (n : ℕ) (alone : Bool)
    (before mid after one two : List E)
    → GoesOnBy alone maker n before one mid → GoesOnBy alone maker n mid two after
    → GoesOnBy alone maker n before (one ++ two) after
went-twice maker n alone before mid after one two p q = record {
  suffix = p.suffix ++ q.suffix;
  after_is = q.after_is
      ∙ (ap (λ l. l ++ q.suffix) p.after_is ∙ append_assoc before p.suffix q.suffix);
  own_is = own-append maker n p.suffix q.suffix ∙ (λ i. p.own_is i ++ q.own_is i);
  all_alone = λ yes i. p.all_alone yes i ++ q.all_alone yes i;
}

-- two pieces of work are one
pub worked-twice : {P : Type 0} (alone : Bool) (node : ℕ) (old mid new : Frame P)
    (before known after : List Mark)
    → Worked alone node old before mid known → Worked alone node mid known new after
    → Worked alone node old before new after
worked-twice alone node old mid new before known after w v = record {
  added = w.added ++ v.added;
  went = went-twice node_of node alone before known after w.added v.added w.went v.went;
  same = v.same ∙ w.same;
}
