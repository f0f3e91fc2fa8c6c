use Rattle.comm_port.proofs.Allowed.{send-short}
use Rattle.comm_port.proofs.Sends.{all-sent, sent-next}
use Rattle.ring_core.specs.declared.entry.RingEntry.TheVariants.{Send}
use Rattle.std.proofs.Common.{refl}
use Rattle.comm_port.proofs.RingTurns.{mine}
use Rattle.comm_port.proofs.Steps.{ring-called}
use Rattle.comm_port.proofs.sending.send_next.Goals as goal

pub returns-in-Ok-clause-sent : goal.returns-in-Ok-clause-sent
returns-in-Ok-clause-sent g c =
    let o = c.in-Ok.ensures in
    sent-next _ g.R.RingSide.alone c.args.node _ c.in-Ok.heard _ c.requires.turn c.requires.holds
    o.legal o.went.list

pub returns-in-NothingToSend-clause-sent : goal.returns-in-NothingToSend-clause-sent
returns-in-NothingToSend-clause-sent g c =
    let e = c.in-Err.ensures in
    all-sent _ g.R.RingSide.alone c.args.node _ _ c.in-Err.why c.requires.turn e.legal e.went.list
    e.refused c.in-NothingToSend.is

pub of-requires : goal.of-requires
of-requires g c =
    let e = c.in-Err.ensures in
    send-short g.R.RingSide.alone c.args.node _ _ _ c.in-Err.why e.legal e.went.list c.requires.turn
    c.requires.holds c.in_default.not-NothingToSend e.refused

pub returns-in-Ok-clause-step : goal.returns-in-Ok-clause-step
returns-in-Ok-clause-step g c =
    let o = c.in-Ok.ensures in
    ring-called g.R.RingSide c.args.node o.same o.legal o.went
    (mine c.args.node (Send c.args.node c.in-Ok.heard) refl)

pub returns-in-NothingToSend-clause-step : goal.returns-in-NothingToSend-clause-step
returns-in-NothingToSend-clause-step g c =
    let e = c.in-Err.ensures in
    ring-called g.R.RingSide c.args.node e.same e.legal e.went refl

pub returns-in_default-clause-step : goal.returns-in_default-clause-step
returns-in_default-clause-step g c =
    let e = c.in-Err.ensures in
    ring-called g.R.RingSide c.args.node e.same e.legal e.went refl
