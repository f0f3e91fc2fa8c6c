use Rattle.panel_session.proofs.ScanMade.{bench-served}
use Rattle.panel_session.proofs.bench.Bench.serve.Goals as goal

pub invariant_of-self-2 : goal.invariant_of-self-2
invariant_of-self-2 c =
    bench-served c.self.inside.shown c.self.inside.controller c.peer.new.self
    c.self.inside.served _ c.args.request.now c.self.invariant c.scans_stay_whole.ensures.stays
    c.in_ok-reply.ensures.ok
