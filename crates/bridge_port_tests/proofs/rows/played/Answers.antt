use Rattle.std.proofs.Common.{ap, arith, inl, inr, refl}
use Rattle.bridge_port.specs.EndTurns.{BridgeWorkerIs}
use Rattle.bridge_port_tests.proofs.Starts.{end-starts, new-ring}
use Rattle.bridge_port_tests.proofs.rows.played.Goals as goal

pub hold_all-requires-clause-one_end : goal.hold_all-requires-clause-one_end
hold_all-requires-clause-one_end g c =
    let s = c.in_ok-one.one in
    let e = c.in_ok-one.ensures in
    let net = c.in_ok-first.ensures in
    end-starts 2 9 s.end_worker s.end_left c.in_ok-bridge.bridge _ s.ring.net s.ring.history
    (omega arith) (omega arith) refl
    (new-ring 2 9 s.ring.net c.in_ok-first.first s.ring.history e.net net.members net.answer
    e.empty)
    (ap (λ (w : BridgeWorkerIs). w.side) e.end) c.in_ok-bridge.ensures (inl refl)

pub hold_all-requires-clause-two_end : goal.hold_all-requires-clause-two_end
hold_all-requires-clause-two_end g c =
    let s = c.in_ok-two.two in
    let e = c.in_ok-two.ensures in
    let net = c.in_ok-second.ensures in
    end-starts 5 12 s.end_worker s.end_left c.in_ok-bridge.bridge _ s.ring.net s.ring.history
    (omega arith) (omega arith) refl
    (new-ring 5 12 s.ring.net c.in_ok-second.second s.ring.history e.net net.members net.answer
    e.empty)
    (ap (λ (w : BridgeWorkerIs). w.side) e.end) c.in_ok-bridge.ensures (inr refl)
