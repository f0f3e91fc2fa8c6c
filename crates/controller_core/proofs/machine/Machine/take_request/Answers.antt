use Rattle.std.proofs.Common.{List, ℕ, sym, subst}
use Rattle.controller_core.specs.declared.entry.Entry.TheVariants as entries
use Rattle.controller_core.specs.Machine.{Tells}
use Rattle.controller_core.proofs.machine.Machine.take_request.Goals as goal

pub returns-clause-does : goal.returns-clause-does
returns-clause-does c =
    subst (λ (l : List ℕ).
    Tells (entries.Peer c.args.id l c.in_ok-reply.copy) c.args.self.now c.serve.new.self)
    (sym c.in_ok-kept.ensures) (c.in_ok-reply.ensures.serves c.args.id c.in_ok-reply.copy)
