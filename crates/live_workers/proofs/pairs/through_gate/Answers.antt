use Rattle.live_workers.proofs.Closing.{back}
use Rattle.live_workers.proofs.pairs.through_gate.Goals as goal

pub returns-clause-back : goal.returns-clause-back
returns-clause-back g c =
    let r = c.run_pair-scanned in
    back c.args.gate.now r.new.worker (g.G.RingSide.side r.new.ring)
    (g.G.RingSide.known r.new.ring) c.args.zero c.split-zero.result.0 c.split-zero-2.result.0
    c.join-zero.result c.join-zero-2.result r.new.one c.into_pass.result r.new.ram.gate
    r.new.ram.seen r.result.0 r.result.1
    c.requires.zero c.split-zero.ensures.zero c.split-zero-2.ensures.zero r.ensures.ready
    r.ensures.gate c.into_pass.ensures.ready c.into_pass.ensures.seen
    c.join-zero.ensures c.join-zero-2.ensures r.ensures.talks
