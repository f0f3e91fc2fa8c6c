use Rattle.comm_port.proofs.Allowed.{give-short}
use Rattle.ring_core.specs.declared.entry.RingEntry.TheVariants.{GiveUp}
use Rattle.std.proofs.Common.{refl}
use Rattle.comm_port.proofs.RingTurns.{mine}
use Rattle.comm_port.proofs.Steps.{ring-called}
use Rattle.comm_port.proofs.asking.give_up_now.Goals as goal

pub of-requires : goal.of-requires
of-requires g c =
    let o = c.in-Err.ensures in
    give-short g.R.RingSide.alone c.args.id _ _ _ _ o.legal o.went.list c.requires.turn
    c.requires.may o.refused

pub returns-in-Ok-clause-went : goal.returns-in-Ok-clause-went
returns-in-Ok-clause-went g c = c.in-Ok.ensures.went.list

pub returns-in-Ok-clause-step : goal.returns-in-Ok-clause-step
returns-in-Ok-clause-step g c =
    let o = c.in-Ok.ensures in
    ring-called g.R.RingSide c.args.id.node o.same o.legal o.went
    (mine c.args.id.node (GiveUp c.args.id c.in-Ok.word) refl)

pub returns-in-Err-clause-step : goal.returns-in-Err-clause-step
returns-in-Err-clause-step g c =
    let e = c.in-Err.ensures in
    ring-called g.R.RingSide c.args.id.node e.same e.legal e.went refl
