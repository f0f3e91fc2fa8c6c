use Rattle.comm_port.proofs.HostServes.{served-told}
use Rattle.comm_port.proofs.HostTurning.{turning-told}
use Rattle.comm_port.proofs.Steps.{host-ring}
use Rattle.comm_port.proofs.Onward.{for-stats}
use Rattle.comm_port.proofs.host_worker.answer_port.Goals as goal

pub tell_statistics-requires-clause-stats : goal.tell_statistics-requires-clause-stats
tell_statistics-requires-clause-stats g c = for-stats c.args.request.now c.requires.stats

pub returns-clause-turning : goal.returns-clause-turning
returns-clause-turning g c =
    let o = c.in_ok-tell_statistics.ensures in
    turning-told c.args.node c.args.request.now _ _ g.R.RingSide.alone _ _ c.requires.taking
    c.requires.kind c.requires.stats o.told o.step.stands.legal o.kept

pub returns-clause-served : goal.returns-clause-served
returns-clause-served g c =
    served-told g.R.RingSide.alone c.args.node c.args.request.now _ _ _ c.requires.kind
    c.requires.stats c.in_ok-tell_statistics.ensures.told

pub returns-in_err-tell_statistics-clause-step : goal.returns-in_err-tell_statistics-clause-step
returns-in_err-tell_statistics-clause-step g c =
    host-ring g.R.RingSide c.args.node c.args.host.now c.requires.taking.legal
    c.in_err-tell_statistics.ensures.step

pub returns-clause-step : goal.returns-clause-step
returns-clause-step g c =
    host-ring g.R.RingSide c.args.node c.args.host.now c.requires.taking.legal
    c.in_ok-tell_statistics.ensures.step
