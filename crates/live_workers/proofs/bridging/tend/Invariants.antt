use Rattle.std.proofs.Common.{◌≡◌, false}
use Rattle.live_workers.specs.Bridging.{TendsOn}
use Rattle.live_workers.proofs.bridging.tend.Given as goal

abbrev pub invariant-loop : goal.invariant-loop
invariant-loop g l = record {
  worker : l.worker ≡ record { side = l.side; budget = false };
  tends : TendsOn l.side (g.B.BridgeSide.bridge l.bridge) (g.B.BridgeSide.known l.bridge)
      (g.G.RingSide.side l.ring) (g.G.RingSide.known l.ring) false;
  bridge_same : g.B.BridgeSide.bridge l.bridge ≡ g.B.BridgeSide.bridge l.fn.bridge;
  ring_same : g.G.RingSide.side l.ring ≡ g.G.RingSide.side l.fn.ring;
}
