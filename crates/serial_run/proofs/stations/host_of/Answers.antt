use Rattle.std.proofs.Common.{subst}
use Rattle.host_port.specs.Host.{HostIs}
use Rattle.host_port.specs.Legal.{IsHostHistory}
use Rattle.serial_run.proofs.Starting.{start-host}
use Rattle.serial_run.proofs.stations.host_of.Goals as goal

pub returns : goal.returns
returns c =
    let is = c.in_ok-host.ensures in
    start-host c.args.plant.now c.args.plan.now c.in_ok-host.host c.in_ok-worker.worker
    c.requires.net
    c.requires.member (subst (λ (v : HostIs). IsHostHistory v.plan v.history) is
    c.history.ensures.legal) is c.in_ok-worker.ensures
