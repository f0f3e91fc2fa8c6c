use Rattle.std.proofs.Common.{[], refl}
use Rattle.std.proofs.lemmas.Bool.{both_ways, false≢true}
use Rattle.bridge_relay.proofs.bridge.Bridge.follow.Goals as goal

pub returns-then-not-may_follow-clause-legal : goal.returns-then-not-may_follow-clause-legal
returns-then-not-may_follow-clause-legal c = (
  λ e. absurd (false≢true e),
  λ may. absurd (both_ways _ c.if-not-may_follow.true
      (c.may_follow.ensures.1 (may c.args.self.now.history [] c.args.entry.now refl))),
)
