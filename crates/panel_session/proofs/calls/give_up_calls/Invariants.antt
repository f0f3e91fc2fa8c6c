use Rattle.panel_session.proofs.GivingUp.{IsGivingUp}
use Rattle.panel_session.proofs.calls.give_up_calls.Given as goal

abbrev pub invariant-loop-call : goal.invariant-loop-call
invariant-loop-call l = IsGivingUp l.fn.controller l.controller l.call-items l.call-index
