use Rattle.comm_port.proofs.HostServes.{served-refused}
use Rattle.comm_port.proofs.HostTurning.{turning-served}
use Rattle.comm_port.proofs.Steps.{host-noted, ring-rest}
use Rattle.comm_port.proofs.host_worker.answer_request.Goals as goal

pub returns-clause-turning : goal.returns-clause-turning
returns-clause-turning g c =
    let o = c.in_ok-post_reply.ensures in
    turning-served c.args.node c.args.request.now c.in_ok-reply.reply _ _ _ g.R.RingSide.alone _ _
    c.requires.taking
    c.requires.kind c.requires.plain c.in_ok-reply.ensures.went_on
    o.grew o.step.stands.legal o.kept

pub returns-clause-served : goal.returns-clause-served
returns-clause-served g c =
    let s = c.in_ok-reply.ensures in
    served-refused g.R.RingSide.alone c.args.node c.args.request.now c.in_ok-reply.reply _ _ _ _
    c.requires.kind
    c.requires.plain s.reply s.went_on.history c.in_ok-post_reply.ensures.grew

pub returns-in_err-reply-clause-step : goal.returns-in_err-reply-clause-step
returns-in_err-reply-clause-step g c =
    host-noted g.R.RingSide c.args.node c.in_err-reply.ensures.went_on
    (ring-rest g.R.RingSide c.args.node c.args.ring.now c.requires.taking.own_turn.on.legal)

pub returns-in_err-post_reply-clause-step : goal.returns-in_err-post_reply-clause-step
returns-in_err-post_reply-clause-step g c =
    host-noted g.R.RingSide c.args.node c.in_ok-reply.ensures.went_on
    c.in_err-post_reply.ensures.step

pub returns-clause-step : goal.returns-clause-step
returns-clause-step g c =
    host-noted g.R.RingSide c.args.node c.in_ok-reply.ensures.went_on
    c.in_ok-post_reply.ensures.step
