use Rattle.comm_port.proofs.Steps.{ring-rest}
use Rattle.comm_port.proofs.leaving.leave_if.Goals as goal

pub returns-else-wants-clause-step : goal.returns-else-wants-clause-step
returns-else-wants-clause-step g c =
    ring-rest g.R.RingSide c.args.node c.args.ring.now c.requires.turn.on.legal
