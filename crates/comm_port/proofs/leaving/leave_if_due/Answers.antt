use Rattle.comm_port.proofs.Allowed.{leave-short}
use Rattle.comm_port.proofs.TurnEnds.{did-leave, did-not}
use Rattle.ring_core.specs.declared.entry.RingEntry.TheVariants.{Leave}
use Rattle.std.proofs.Common.{refl}
use Rattle.comm_port.proofs.RingTurns.{mine}
use Rattle.comm_port.proofs.Steps.{ring-left}
use Rattle.comm_port.proofs.leaving.leave_if_due.Goals as goal

pub returns-in-Ok-clause-due : goal.returns-in-Ok-clause-due
returns-in-Ok-clause-due g c =
    let o = c.in-Ok.ensures in
    (did-leave _ c.args.node c.args.cause g.R.RingSide.alone _ _ c.requires.turn.on o.legal
    c.requires.holds o.went.list).0

pub returns-in-Ok-clause-did : goal.returns-in-Ok-clause-did
returns-in-Ok-clause-did g c =
    let o = c.in-Ok.ensures in
    (did-leave _ c.args.node c.args.cause g.R.RingSide.alone _ _ c.requires.turn.on o.legal
    c.requires.holds o.went.list).1

pub returns-in-NotDue-clause-due : goal.returns-in-NotDue-clause-due
returns-in-NotDue-clause-due g c =
    let e = c.in-Err.ensures in
    let d = c.in-NotDue in
    (did-not _ c.args.node c.args.cause g.R.RingSide.alone _ _ c.in-Err.why d.held d.needed e.legal
    c.requires.holds
    e.went.list e.refused d.is).0

pub returns-in-NotDue-clause-did : goal.returns-in-NotDue-clause-did
returns-in-NotDue-clause-did g c =
    let e = c.in-Err.ensures in
    let d = c.in-NotDue in
    (did-not _ c.args.node c.args.cause g.R.RingSide.alone _ _ c.in-Err.why d.held d.needed e.legal
    c.requires.holds
    e.went.list e.refused d.is).1

pub of-requires : goal.of-requires
of-requires g c =
    let e = c.in-Err.ensures in
    leave-short g.R.RingSide.alone c.args.node c.args.cause _ _ _ c.in-Err.why e.legal e.went.list
    c.requires.turn c.requires.holds c.requires.sent c.requires.taken
    c.in_default.not-NotDue e.refused

pub returns-in-Ok-clause-step : goal.returns-in-Ok-clause-step
returns-in-Ok-clause-step g c =
    let o = c.in-Ok.ensures in
    ring-left g.R.RingSide c.args.node o.same o.legal o.went
    (mine c.args.node (Leave c.args.node c.args.cause) refl)

pub returns-in-NotDue-clause-step : goal.returns-in-NotDue-clause-step
returns-in-NotDue-clause-step g c =
    let e = c.in-Err.ensures in
    ring-left g.R.RingSide c.args.node e.same e.legal e.went refl

pub returns-in_default-clause-step : goal.returns-in_default-clause-step
returns-in_default-clause-step g c =
    let e = c.in-Err.ensures in
    ring-left g.R.RingSide c.args.node e.same e.legal e.went refl
