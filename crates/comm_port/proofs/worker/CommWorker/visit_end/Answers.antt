use Rattle.std.proofs.Common.{sym, subst}
use Rattle.comm_port.specs.Worker.{Standing, WorkerIs}
use Rattle.comm_port.proofs.Downs.{latest-visited}
use Rattle.comm_port.proofs.Failed.{standing-visited}
use Rattle.comm_port.proofs.worker.CommWorker.visit_end.Goals as goal

pub returns-clause-standing : goal.returns-clause-standing
returns-clause-standing g c =
    let v = c.in-Ok.ensures in
    let ram = g.M.RamSide in
    let ring = g.R.RingSide in
    let w = c.self.inside in
    let worker : WorkerIs = record {
      node = w.node;
      budget = w.budget;
      noticed = w.noticed;
      waiting = w.waiting;
    } in
    standing-visited worker c.visit.new.waiting _ _ _ _ _ _ _ _ v.step.node.same v.turning v.rest
    (latest-visited ram.alone ring.alone _ _ w.node _ _ _ _ v.visited)
    (subst (λ (x : WorkerIs). Standing x (ram.side c.args.ram.now) (ram.known c.args.ram.now)
    (ring.side c.args.ring.now) (ring.known c.args.ring.now)) (sym c.self.view_is)
    c.requires.standing)
