use Rattle.std.proofs.Common.{sym, subst}
use Rattle.comm_port.specs.Worker.{Standing, WorkerIs}
use Rattle.comm_port.proofs.Failed.{standing-back}
use Rattle.comm_port.proofs.worker.CommWorker.away_turn.Goals as goal

pub returns-clause-standing : goal.returns-clause-standing
returns-clause-standing g c =
    let b = c.in-Ok.ensures in
    let ram = g.M.RamSide in
    let ring = g.R.RingSide in
    subst (λ (w : WorkerIs). Standing w (ram.side c.come_back.new.ram)
    (ram.known c.come_back.new.ram) (ring.side c.come_back.new.ring)
    (ring.known c.come_back.new.ring)) c.self.view_is
    (standing-back ram.alone ring.alone c.in-Ok.joined _ _ _ _ _ _ _ _ _ b.step.station.same
    b.step.node.same b.step.node.stands.legal b.came
    (subst (λ (w : WorkerIs). Standing w (ram.side c.args.ram.now) (ram.known c.args.ram.now)
    (ring.side c.args.ring.now) (ring.known c.args.ring.now)) (sym c.self.view_is)
    c.requires.standing))
