use Rattle.comm_port.proofs.Steps.{both-ram}
use Rattle.comm_port.proofs.serving.serve.Goals as goal

pub returns-in_err-end_call-in-Reply-clause-step : goal.returns-in_err-end_call-in-Reply-clause-step
returns-in_err-end_call-in-Reply-clause-step g c =
    both-ram g.M.RamSide g.R.RingSide c.args.node c.args.ring.now
    c.requires.taking.own_turn.on.legal c.in_err-end_call-in-Reply.ensures.step

pub returns-in_ok-end_call-in-Reply-clause-step : goal.returns-in_ok-end_call-in-Reply-clause-step
returns-in_ok-end_call-in-Reply-clause-step g c =
    both-ram g.M.RamSide g.R.RingSide c.args.node c.args.ring.now
    c.requires.taking.own_turn.on.legal c.in_ok-end_call-in-Reply.ensures.step
