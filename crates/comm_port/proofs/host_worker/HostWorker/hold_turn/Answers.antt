use Rattle.std.proofs.Common.{sym, subst}
use Rattle.comm_port.specs.HostTurns.{CountsPasses, HostWorkerIs}
use Rattle.comm_port.proofs.HostHolds.{counts-more, counts-same}
use Rattle.comm_port.proofs.host_worker.HostWorker.hold_turn.Goals as goal

pub returns-then-not-left-clause-counts : goal.returns-then-not-left-clause-counts
returns-then-not-left-clause-counts g c =
    let counts = subst (λ (w : HostWorkerIs). CountsPasses w (g.R.RingSide.known c.args.ring.now))
    (sym c.self.view_is) c.requires.counts in
    counts-more g.R.RingSide.alone _ _ _ _ _ _ _ _ c.in-Ok.left _ _ c.if-not-left.true counts
    c.saturating_add-hold.ensures c.in-Ok.ensures.held

pub returns-else-not-left-clause-counts : goal.returns-else-not-left-clause-counts
returns-else-not-left-clause-counts g c =
    let before = g.R.RingSide.known c.args.ring.now in
    let counts = subst (λ (w : HostWorkerIs). CountsPasses w before) (sym c.self.view_is)
    c.requires.counts in
    subst (λ (w : HostWorkerIs). CountsPasses w (g.R.RingSide.known c.turn.new.ring)) c.self.view_is
    (counts-same g.R.RingSide.alone _ _ _ _ _ _ _ _ c.in-Ok.left _ c.if-not-left.false counts
    c.in-Ok.ensures.held)
