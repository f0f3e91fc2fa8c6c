use Rattle.comm_port.proofs.Sends.{gave-not, gave-up}
use Rattle.comm_port.proofs.HostRuns.{not-due, not-true-is}
use Rattle.ring_core.specs.declared.entry.RingEntry.TheVariants.{GiveUp}
use Rattle.std.proofs.Common.{refl}
use Rattle.comm_port.proofs.RingTurns.{mine}
use Rattle.comm_port.proofs.Steps.{ring-called}
use Rattle.comm_port.proofs.sending.give_up_on.Goals as goal

pub returns-in-Ok-clause-given : goal.returns-in-Ok-clause-given
returns-in-Ok-clause-given g c =
    let o = c.in-Ok.ensures in
    gave-up _ g.R.RingSide.alone c.args.id c.in-Ok.word _ _ c.requires.turn o.legal o.went.list

pub returns-else-wants_memory-clause-given : goal.returns-else-wants_memory-clause-given
returns-else-wants_memory-clause-given g c =
    let o = c.in-Err.ensures in
    gave-not _ g.R.RingSide.alone c.args.id _ _ c.requires.turn o.legal o.went.list c.in-Err.why
    (not-true-is _ _ c.wants_memory.ensures c.if-wants_memory.false) o.refused

pub returns-else-wants_memory-clause-not_due : goal.returns-else-wants_memory-clause-not_due
returns-else-wants_memory-clause-not_due g c = λ e. not-due _ c.in-Err.why c.in-Err.ensures.refused
    (not-true-is _ _ c.wants_memory.ensures c.if-wants_memory.false)

pub returns-in-Ok-clause-step : goal.returns-in-Ok-clause-step
returns-in-Ok-clause-step g c =
    let o = c.in-Ok.ensures in
    ring-called g.R.RingSide c.args.id.node o.same o.legal o.went
    (mine c.args.id.node (GiveUp c.args.id c.in-Ok.word) refl)

pub returns-then-wants_memory-clause-step : goal.returns-then-wants_memory-clause-step
returns-then-wants_memory-clause-step g c =
    let e = c.in-Err.ensures in
    ring-called g.R.RingSide c.args.id.node e.same e.legal e.went refl

pub returns-else-wants_memory-clause-step : goal.returns-else-wants_memory-clause-step
returns-else-wants_memory-clause-step g c =
    let e = c.in-Err.ensures in
    ring-called g.R.RingSide c.args.id.node e.same e.legal e.went refl
