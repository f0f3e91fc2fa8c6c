use Rattle.comm_port.proofs.Allowed.{post-short}
use Rattle.ring_core.specs.declared.entry.RingEntry.TheVariants.{Post}
use Rattle.std.proofs.Common.{refl}
use Rattle.comm_port.proofs.RingTurns.{mine}
use Rattle.comm_port.proofs.Steps.{ring-called}
use Rattle.comm_port.proofs.asking.post_frame.Goals as goal

pub of-requires : goal.of-requires
of-requires g c =
    let o = c.in-Err.ensures in
    post-short g.R.RingSide.alone c.args.node c.args.frame _ _ _ _ o.legal o.went.list
    c.requires.turn c.requires.free o.refused

pub returns-in-Ok-clause-went : goal.returns-in-Ok-clause-went
returns-in-Ok-clause-went g c = c.in-Ok.ensures.went.list

pub returns-in-Ok-clause-step : goal.returns-in-Ok-clause-step
returns-in-Ok-clause-step g c =
    let o = c.in-Ok.ensures in
    ring-called g.R.RingSide c.args.node o.same o.legal o.went
    (mine c.args.node (Post c.args.node c.args.frame) refl)

pub returns-in-Err-clause-step : goal.returns-in-Err-clause-step
returns-in-Err-clause-step g c =
    let e = c.in-Err.ensures in
    ring-called g.R.RingSide c.args.node e.same e.legal e.went refl
