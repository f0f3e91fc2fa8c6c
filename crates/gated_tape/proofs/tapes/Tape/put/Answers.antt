use Rattle.std.proofs.Common.{◌≡◌, sym, subst, arith}
use Rattle.gated_tape.specs.Marks.{TapeFacts, mark_count, IsLegalTape}
use Rattle.gated_tape.proofs.Marking.{legal-put}
use Rattle.gated_tape.proofs.tapes.Tape.put.Goals as goal

pub invariant_of-self-2 : goal.invariant_of-self-2
invariant_of-self-2 c =
    let s = c.self.inside in
    let next = subst (λ (f : TapeFacts). mark_count c.args.node f.marks ≡ c.args.word)
    (sym c.self.view_is) c.requires in
    subst (IsLegalTape s.limit) (sym c.in_ok-push.ensures.items)
    (legal-put s.limit c.args.node c.args.word s.marks.items (omega arith) next c.self.invariant)
