use Rattle.std.proofs.lemmas.Bool.{both_ways, false≢true}
use Rattle.host_port.proofs.Next.{next_of}
use Rattle.host_port.proofs.host.Host.follow.Goals as goal

pub returns-then-not-branch-clause-legal : goal.returns-then-not-branch-clause-legal
returns-then-not-branch-clause-legal c = (
  λ e. absurd (false≢true e),
  λ may. absurd (both_ways _ c.if-not-branch.true
      (c.in_ok-may_follow.ensures.1 (next_of c.args.self.now c.args.entry.now may))),
)
