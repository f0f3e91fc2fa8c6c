use Rattle.comm_port.proofs.Steps.{host-ring, ring-rest}
use Rattle.comm_port.proofs.host_worker.give_up_if.Goals as goal

pub returns-else-wanted-clause-step : goal.returns-else-wanted-clause-step
returns-else-wanted-clause-step g c =
    host-ring g.R.RingSide c.args.node c.args.host.now c.requires.turning.legal
    (ring-rest g.R.RingSide c.args.node c.args.ring.now c.requires.turning.own_turn.on.legal)
