use Rattle.std.proofs.Common.{subst}
use Rattle.controller_core.specs.Controller.{ControllerIs, IsLegal}
use Rattle.serial_run.proofs.Starting.{start-controller}
use Rattle.serial_run.proofs.stations.controller_of.Goals as goal

pub returns : goal.returns
returns c =
    let is = c.in_ok-controller.ensures in
    start-controller c.args.plant.now c.args.scans c.args.plan.now c.in_ok-controller.controller
    c.in_ok-worker.worker c.requires.net
    c.requires.member (subst (λ (v : ControllerIs). IsLegal v.fixed v.history) is
    c.history.ensures.legal) is c.in_ok-worker.ensures
