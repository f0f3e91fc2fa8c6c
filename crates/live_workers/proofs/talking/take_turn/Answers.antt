use Rattle.std.proofs.Common.{◌≡◌, sym, ap, subst, ◌∙◌, arith}
use Rattle.ring_core.specs.Machine.{ring_after}
use Rattle.live_workers.specs.Talking.{TalksOn}
use Rattle.live_workers.specs.declared.talking.Stage.{Stage}
use Rattle.live_workers.proofs.Keeping.{holds-now, talks-next, talks-others}
use Rattle.live_workers.proofs.talking.take_turn.Goals as goal

pub hold_turn-requires-clause-standing : goal.hold_turn-requires-clause-standing
hold_turn-requires-clause-standing g c =
    (talks-others g.G.RingSide.alone _ _ _ _ _ _ _ c.holder.ensures.same
    (c.holder.ensures.went _ c.requires.talks.standing.serves).list c.holder.ensures.legal
    c.requires.talks).standing

pub hold_turn-requires-clause-holds : goal.hold_turn-requires-clause-holds
hold_turn-requires-clause-holds g c =
    let t = talks-others g.G.RingSide.alone c.args.worker.now (g.M.RamSide.side c.args.ram.now)
    (g.M.RamSide.known c.args.ram.now)
    (g.G.RingSide.side c.args.ring.now) (g.G.RingSide.side c.holder.new.self)
    (g.G.RingSide.known c.args.ring.now) (g.G.RingSide.known c.holder.new.self)
    c.holder.ensures.same (c.holder.ensures.went _ c.requires.talks.standing.serves).list
    c.holder.ensures.legal c.requires.talks in
    let found : c.holder.result ≡ c.args.node = grind (arith, c.if-holder-node.false) in
    holds-now c.somebody_holds.ensures c.args.worker.now (g.M.RamSide.side c.args.ram.now)
    (g.M.RamSide.known c.args.ram.now) (g.G.RingSide.side c.holder.new.self)
    (g.G.RingSide.known c.holder.new.self) c.args.node c.requires.node t
    (ap (λ s. (ring_after s.net (g.G.RingSide.known c.holder.new.self)).holder)
    c.holder.ensures.same ∙ sym c.holder.ensures.answer ∙ found)

pub hold_turn-requires-clause-no_bridge : goal.hold_turn-requires-clause-no_bridge
hold_turn-requires-clause-no_bridge g c =
    (talks-others g.G.RingSide.alone _ _ _ _ _ _ _ c.holder.ensures.same
    (c.holder.ensures.went _ c.requires.talks.standing.serves).list c.holder.ensures.legal
    c.requires.talks).no_bridge

pub returns-then-holder-node-clause-talks : goal.returns-then-holder-node-clause-talks
returns-then-holder-node-clause-talks g c =
    talks-others g.G.RingSide.alone _ _ _ _ _ _ _ c.holder.ensures.same
    (c.holder.ensures.went _ c.requires.talks.standing.serves).list c.holder.ensures.legal
    c.requires.talks

pub returns-clause-talks : goal.returns-clause-talks
returns-clause-talks g c =
    let t = talks-others g.G.RingSide.alone c.args.worker.now (g.M.RamSide.side c.args.ram.now)
    (g.M.RamSide.known c.args.ram.now)
    (g.G.RingSide.side c.args.ring.now) (g.G.RingSide.side c.holder.new.self)
    (g.G.RingSide.known c.args.ring.now) (g.G.RingSide.known c.holder.new.self)
    c.holder.ensures.same (c.holder.ensures.went _ c.requires.talks.standing.serves).list
    c.holder.ensures.legal c.requires.talks in
    subst (λ (s : Stage). TalksOn c.hold_turn.new.self (g.M.RamSide.side c.hold_turn.new.ram)
    (g.M.RamSide.known c.hold_turn.new.ram) (g.G.RingSide.side c.hold_turn.new.ring)
    (g.G.RingSide.known c.hold_turn.new.ring) s) (sym c.stage_of.ensures)
    (talks-next (record {
      keeps = c.turns_keep_on.ensures;
      where_to = c.turns_end_where.ensures.holds;
      leaves = c.leaves_when_ended.ensures;
      unspent = c.none_is_spent.ensures.turns;
    }) g.M.RamSide.alone g.G.RingSide.alone _ _ _ _ _ _ _ _ _ _ c.in_ok-end.end
    c.in_ok-end.ensures.step.station.same c.in_ok-end.ensures.step.node.same
    c.in_ok-end.ensures.worker c.in_ok-end.ensures.held c.in_ok-end.ensures.step.station.stands
    c.in_ok-end.ensures.standing t)
