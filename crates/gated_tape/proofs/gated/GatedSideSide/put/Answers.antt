use Rattle.std.proofs.Common.{◌≡◌, ◌++◌, All, ap, subst, sym, ◌∙◌}
use Rattle.turn_gate.specs.Known.{PassFacts}
use Rattle.gated_tape.specs.declared.tapes.Mark.{Mark}
use Rattle.gated_tape.specs.Marks.{mark, node_of, added_on, TapeFacts}
use Rattle.gated_tape.specs.Sides.{SideFacts}
use Rattle.gated_tape.specs.Cells.{tape_in}
use Rattle.gated_tape.proofs.Marking.{all_added}
use Rattle.gated_tape.proofs.gated.GatedSideSide.put.Goals as goal

pub leave-requires-clause-added : goal.leave-requires-clause-added
leave-requires-clause-added g c =
    let added = added_on c.put-answer.result (mark c.args.node c.args.word) in
    let found = c.get_mut-tape.ensures.value ∙ ap tape_in c.value.ensures.value in
    let number = ap (λ (p : PassFacts Mark). p.number) c.enter-held.ensures.pass
    ∙ (ap (λ (s : SideFacts). s.number) c.self.view_is ∙ c.requires.serves) in
    record {
      added = added;
      grown = ap (λ (t : TapeFacts). t.marks) c.put-answer.ensures.marks
          ∙ ap (λ l. l ++ added) (ap (λ (t : TapeFacts). t.marks) found
          ∙ sym (ap (λ (p : PassFacts Mark). p.seen) c.enter-held.ensures.pass));
      own_all = subst (λ n. All (λ e. node_of e ≡ n) added) (sym number)
          (all_added c.put-answer.result c.args.node c.args.word);
    }
