use Rattle.live_workers.proofs.Starting.{attends-start}
use Rattle.live_workers.proofs.hosting.run_host.Goals as goal

pub attend-requires-clause-attends : goal.attend-requires-clause-attends
attend-requires-clause-attends g c =
    attends-start c.args.run.now.plant.now c.args.plan.now c.in_ok-worker.worker
    c.in_ok-host.host (g.G.RingSide.side c.args.ring.now) (g.G.RingSide.known c.args.ring.now)
    c.requires.unused c.in_ok-host.ensures c.in_ok-worker.ensures
