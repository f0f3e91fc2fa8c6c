use Rattle.std.proofs.Common.{sym, subst}
use Rattle.gated_tape.specs.Marks.{IsLegalTape}
use Rattle.gated_tape.proofs.Marking.{legal-nil}
use Rattle.gated_tape.proofs.tapes.Tape.new.Goals as goal

pub invariant_of-result : goal.invariant_of-result
invariant_of-result c =
    subst (IsLegalTape c.args.limit) (sym c.new.ensures.items) (legal-nil c.args.limit)
