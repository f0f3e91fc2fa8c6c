use Rattle.comm_port.proofs.HostRefusals.{take-short}
use Rattle.std.proofs.Common.{refl}
use Rattle.comm_port.proofs.Steps.{mine-taken, ring-called}
use Rattle.comm_port.proofs.taking.take_next.Goals as goal

pub of-requires : goal.of-requires
of-requires g c =
    let e = c.in-Err.ensures in
    take-short g.R.RingSide.alone c.args.node _ _ _ c.in-Err.why c.requires.turn c.requires.holds
    e.legal e.went.list e.refused

pub returns-in-Ok-clause-went : goal.returns-in-Ok-clause-went
returns-in-Ok-clause-went g c = c.in-Ok.ensures.went.list

pub returns-in-Err-clause-went : goal.returns-in-Err-clause-went
returns-in-Err-clause-went g c = c.in-Err.ensures.went.list

pub returns-in-Ok-clause-step : goal.returns-in-Ok-clause-step
returns-in-Ok-clause-step g c =
    let o = c.in-Ok.ensures in
    ring-called g.R.RingSide c.args.node o.same o.legal o.went
    (mine-taken c.args.node c.in-Ok.taken)

pub returns-in-Err-clause-step : goal.returns-in-Err-clause-step
returns-in-Err-clause-step g c =
    let e = c.in-Err.ensures in
    ring-called g.R.RingSide c.args.node e.same e.legal e.went refl
