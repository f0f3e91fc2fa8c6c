use Rattle.ring_core.specs.declared.entry.LeaveCause.TheVariants.{Ended, Spent}
use Rattle.comm_port.proofs.TurnEnds.{passed-on, ended-on, stood-turn}
use Rattle.comm_port.proofs.Steps.{ring-then}
use Rattle.comm_port.proofs.leaving.hand_on.Goals as goal

pub returns-clause-handed : goal.returns-clause-handed
returns-clause-handed g c =
    let one = c.in_ok-spent in
    let two = c.in_ok-ended in
    passed-on _ _ _ c.args.node c.args.done c.args.budget g.R.RingSide.alone _ _ _ _ one.spent
    two.ended one.ensures.step.same two.ensures.step.same
    one.ensures.due one.ensures.did c.if-spent.false
    two.ensures.due two.ensures.did c.if-ended.false c.in_ok-pass_on.ensures.went c.requires.turn
    c.in_ok-pass_on.ensures.step.stands.legal

pub returns-then-ended-clause-handed : goal.returns-then-ended-clause-handed
returns-then-ended-clause-handed g c =
    let one = c.in_ok-spent in
    let two = c.in_ok-ended in
    ended-on _ _ c.args.node c.args.done c.args.budget g.R.RingSide.alone _ _ _ _ one.spent
    two.ended one.ensures.step.same
    one.ensures.due one.ensures.did c.if-spent.false two.ensures.due two.ensures.did c.if-ended.true

pub returns-in_err-ended-clause-step : goal.returns-in_err-ended-clause-step
returns-in_err-ended-clause-step g c =
    ring-then g.R.RingSide c.args.node c.in_ok-spent.ensures.step c.in_err-ended.ensures.step

pub returns-then-ended-clause-step : goal.returns-then-ended-clause-step
returns-then-ended-clause-step g c =
    ring-then g.R.RingSide c.args.node c.in_ok-spent.ensures.step c.in_ok-ended.ensures.step

pub returns-in_err-pass_on-clause-step : goal.returns-in_err-pass_on-clause-step
returns-in_err-pass_on-clause-step g c =
    ring-then g.R.RingSide c.args.node
    (ring-then g.R.RingSide c.args.node c.in_ok-spent.ensures.step c.in_ok-ended.ensures.step)
    c.in_err-pass_on.ensures.step

pub returns-clause-step : goal.returns-clause-step
returns-clause-step g c =
    ring-then g.R.RingSide c.args.node
    (ring-then g.R.RingSide c.args.node c.in_ok-spent.ensures.step c.in_ok-ended.ensures.step)
    c.in_ok-pass_on.ensures.step

pub leave_if-requires-2-clause-turn : goal.leave_if-requires-2-clause-turn
leave_if-requires-2-clause-turn g c =
    let one = c.in_ok-spent in
    stood-turn _ _ c.args.node Spent g.R.RingSide.alone _ _ one.spent c.if-spent.false
    one.ensures.step.same one.ensures.step.stands.legal one.ensures.did c.requires.turn

pub pass_on-requires-clause-turn : goal.pass_on-requires-clause-turn
pass_on-requires-clause-turn g c =
    let one = c.in_ok-spent in
    let two = c.in_ok-ended in
    stood-turn _ _ c.args.node Ended g.R.RingSide.alone _ _ two.ended c.if-ended.false
    two.ensures.step.same two.ensures.step.stands.legal two.ensures.did
    (stood-turn _ _ c.args.node Spent g.R.RingSide.alone _ _ one.spent c.if-spent.false
    one.ensures.step.same one.ensures.step.stands.legal one.ensures.did c.requires.turn)
