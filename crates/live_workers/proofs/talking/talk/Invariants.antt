use Rattle.std.proofs.Common.{◌≡◌}
use Rattle.live_workers.specs.Talking.{TalksOn}
use Rattle.live_workers.proofs.talking.talk.Given as goal

abbrev pub invariant-loop : goal.invariant-loop
invariant-loop g l = record {
  node : l.worker.node ≡ l.node;
  same_node : l.worker.node ≡ l.fn.worker.node;
  talks : TalksOn l.worker (g.M.RamSide.side l.ram) (g.M.RamSide.known l.ram)
      (g.G.RingSide.side l.ring) (g.G.RingSide.known l.ring) l.stage;
  ram_same : g.M.RamSide.side l.ram ≡ g.M.RamSide.side l.fn.ram;
  ring_same : g.G.RingSide.side l.ring ≡ g.G.RingSide.side l.fn.ring;
}
