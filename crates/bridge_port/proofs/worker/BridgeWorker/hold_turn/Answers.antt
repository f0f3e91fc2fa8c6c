use Rattle.std.proofs.Common.{subst, sym}
use Rattle.bridge_port.specs.EndTurns.{BridgeWorkerIs, EndTurning}
use Rattle.bridge_port.proofs.HoldTurns.{turning-ties}
use Rattle.bridge_port.proofs.worker.BridgeWorker.hold_turn.Goals as goal

pub turn-requires-clause-turning : goal.turn-requires-clause-turning
turn-requires-clause-turning g c =
    let bs = g.B.BridgeSide in
    let rs = g.R.RingSide in
    subst (λ (w : BridgeWorkerIs). EndTurning w.side (bs.bridge c.args.bridge.now)
    (bs.known c.args.bridge.now) (rs.side c.args.ring.now) (rs.known c.args.ring.now))
    (sym c.self.view_is)
    (turning-ties _ (bs.bridge c.args.bridge.now) (bs.known c.args.bridge.now)
    (rs.side c.args.ring.now) (rs.known c.args.ring.now) c.requires.is_open c.requires.holds
    c.requires.ties)
