use Rattle.std.proofs.Common.{◌≡◌, false}
use Rattle.live_workers.specs.Talking.{AttendsOn}
use Rattle.live_workers.proofs.hosting.attend.Given as goal

abbrev pub invariant-loop : goal.invariant-loop
invariant-loop g l = record {
  node : l.worker.node ≡ l.node;
  attends : AttendsOn l.worker l.host (g.G.RingSide.side l.ring) (g.G.RingSide.known l.ring) false;
  plan : l.host.plan ≡ l.fn.host.plan;
  ring_same : g.G.RingSide.side l.ring ≡ g.G.RingSide.side l.fn.ring;
}
