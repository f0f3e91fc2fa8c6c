use Rattle.std.proofs.Common.{◌≡◌, false, sym, ◌∙◌, arith}
use Rattle.live_workers.proofs.Tending.{may-hold, tends-held, tends-others}
use Rattle.live_workers.proofs.bridging.take_turn.Goals as goal

pub returns-then-holder-side-clause-tends : goal.returns-then-holder-side-clause-tends
returns-then-holder-side-clause-tends g c =
    tends-others g.G.RingSide.alone c.args.side (g.B.BridgeSide.bridge c.args.bridge.now)
    (g.B.BridgeSide.known c.args.bridge.now) (g.G.RingSide.side c.args.ring.now)
    (g.G.RingSide.side c.holder.new.self) (g.G.RingSide.known c.args.ring.now)
    (g.G.RingSide.known c.holder.new.self) false c.holder.ensures.same
    (c.holder.ensures.went _ c.requires.tends.ties.serves_ring).list c.holder.ensures.legal
    c.requires.tends

pub hold_turn-requires-clause-ties : goal.hold_turn-requires-clause-ties
hold_turn-requires-clause-ties g c =
    let found : c.holder.result ≡ c.args.side = grind (arith, c.if-holder-side.false) in
    (may-hold g.G.RingSide.alone c.args.worker.now c.args.side
    (g.B.BridgeSide.bridge c.args.bridge.now) (g.B.BridgeSide.known c.args.bridge.now)
    (g.G.RingSide.side c.args.ring.now) (g.G.RingSide.side c.holder.new.self)
    (g.G.RingSide.known c.args.ring.now) (g.G.RingSide.known c.holder.new.self)
    c.requires.worker c.holder.ensures.same
    (c.holder.ensures.went _ c.requires.tends.ties.serves_ring).list c.holder.ensures.legal
    (sym c.holder.ensures.answer ∙ found) c.requires.tends).ties

pub hold_turn-requires-clause-is_open : goal.hold_turn-requires-clause-is_open
hold_turn-requires-clause-is_open g c =
    let found : c.holder.result ≡ c.args.side = grind (arith, c.if-holder-side.false) in
    (may-hold g.G.RingSide.alone c.args.worker.now c.args.side
    (g.B.BridgeSide.bridge c.args.bridge.now) (g.B.BridgeSide.known c.args.bridge.now)
    (g.G.RingSide.side c.args.ring.now) (g.G.RingSide.side c.holder.new.self)
    (g.G.RingSide.known c.args.ring.now) (g.G.RingSide.known c.holder.new.self)
    c.requires.worker c.holder.ensures.same
    (c.holder.ensures.went _ c.requires.tends.ties.serves_ring).list c.holder.ensures.legal
    (sym c.holder.ensures.answer ∙ found) c.requires.tends).is_open

pub hold_turn-requires-clause-holds : goal.hold_turn-requires-clause-holds
hold_turn-requires-clause-holds g c =
    let found : c.holder.result ≡ c.args.side = grind (arith, c.if-holder-side.false) in
    (may-hold g.G.RingSide.alone c.args.worker.now c.args.side
    (g.B.BridgeSide.bridge c.args.bridge.now) (g.B.BridgeSide.known c.args.bridge.now)
    (g.G.RingSide.side c.args.ring.now) (g.G.RingSide.side c.holder.new.self)
    (g.G.RingSide.known c.args.ring.now) (g.G.RingSide.known c.holder.new.self)
    c.requires.worker c.holder.ensures.same
    (c.holder.ensures.went _ c.requires.tends.ties.serves_ring).list c.holder.ensures.legal
    (sym c.holder.ensures.answer ∙ found) c.requires.tends).holds

pub returns-clause-tends : goal.returns-clause-tends
returns-clause-tends g c =
    let t = tends-others g.G.RingSide.alone c.args.side
    (g.B.BridgeSide.bridge c.args.bridge.now) (g.B.BridgeSide.known c.args.bridge.now)
    (g.G.RingSide.side c.args.ring.now) (g.G.RingSide.side c.holder.new.self)
    (g.G.RingSide.known c.args.ring.now) (g.G.RingSide.known c.holder.new.self) false
    c.holder.ensures.same (c.holder.ensures.went _ c.requires.tends.ties.serves_ring).list
    c.holder.ensures.legal c.requires.tends in
    tends-held c.end_turns_keep_on.ensures c.end_turns_spend_nothing.ensures
    g.B.BridgeSide.alone g.G.RingSide.alone c.args.worker.now c.args.side _ _ _ _ _ _ _ _
    c.hold_turn.result c.requires.worker
    c.hold_turn.ensures.step.station.same c.hold_turn.ensures.step.node.same
    c.hold_turn.ensures.held c.hold_turn.ensures.ties c.hold_turn.ensures.is_open
    c.hold_turn.ensures.stays t

pub returns-clause-ring_same : goal.returns-clause-ring_same
returns-clause-ring_same g c = c.hold_turn.ensures.step.node.same ∙ c.holder.ensures.same
