use Rattle.comm_port.proofs.HostServes.{served-got}
use Rattle.comm_port.proofs.HostTurning.{turning-got}
use Rattle.comm_port.proofs.Steps.{host-noted, ring-rest}
use Rattle.comm_port.proofs.host_worker.end_call.Goals as goal

pub returns-clause-turning : goal.returns-clause-turning
returns-clause-turning g c = turning-got c.args.node c.args.reply _ _ _ _ c.requires.taking
    c.requires.kind c.in_ok-answer.ensures.went_on

pub returns-clause-served : goal.returns-clause-served
returns-clause-served g c =
    served-got g.R.RingSide.alone c.args.node c.args.reply _ _ _ c.requires.kind
    c.in_ok-answer.ensures.went_on.history

pub returns-clause-step : goal.returns-clause-step
returns-clause-step g c =
    host-noted g.R.RingSide c.args.node c.in_ok-answer.ensures.went_on
    (ring-rest g.R.RingSide c.args.node c.args.ring.now c.requires.taking.own_turn.on.legal)

pub returns-in_err-answer-clause-step : goal.returns-in_err-answer-clause-step
returns-in_err-answer-clause-step g c =
    host-noted g.R.RingSide c.args.node c.in_err-answer.ensures.went_on
    (ring-rest g.R.RingSide c.args.node c.args.ring.now c.requires.taking.own_turn.on.legal)
