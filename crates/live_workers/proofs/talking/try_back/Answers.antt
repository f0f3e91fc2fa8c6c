use Rattle.std.proofs.Common.{◌≡◌, Bool, true, sym, subst, ◌∙◌}
use Rattle.controller_core.specs.Controller.{IsLegal}
use Rattle.joint_history.specs.Reading.{has_ended_at}
use Rattle.comm_port.specs.Failing.{ComesBack}
use Rattle.live_workers.specs.Talking.{TalksOn}
use Rattle.live_workers.proofs.Coming.{IsOutForGood, came_to, is-out, talks-came, talks-visited}
use Rattle.live_workers.proofs.Keeping.{talks-scans}
use Rattle.live_workers.proofs.talking.try_back.Goals as goal

pub away_turn-requires-clause-standing : goal.away_turn-requires-clause-standing
away_turn-requires-clause-standing g c =
    (talks-scans c.scans_keep_on.ensures g.M.RamSide.alone c.args.worker.now
    (g.M.RamSide.side c.args.ram.now) (g.M.RamSide.side c.has_ended-ended.new.self)
    (g.M.RamSide.known c.args.ram.now) (g.M.RamSide.known c.has_ended-ended.new.self)
    (g.G.RingSide.side c.args.ring.now) (g.G.RingSide.known c.args.ring.now)
    c.has_ended-ended.ensures.same c.has_ended-ended.ensures.went.list c.requires.talks).standing

pub returns-then-branch-clause-talks : goal.returns-then-branch-clause-talks
returns-then-branch-clause-talks g c =
    let ended = c.has_ended-ended in
    let turn = c.away_turn in
    let did = c.in_ok-away_turn in
    let k = talks-scans c.scans_keep_on.ensures g.M.RamSide.alone c.args.worker.now
    (g.M.RamSide.side c.args.ram.now) (g.M.RamSide.side ended.new.self)
    (g.M.RamSide.known c.args.ram.now) (g.M.RamSide.known ended.new.self)
    (g.G.RingSide.side c.args.ring.now) (g.G.RingSide.known c.args.ring.now)
    ended.ensures.same ended.ensures.went.list c.requires.talks in
    subst (λ (joined : Bool). TalksOn turn.new.self (g.M.RamSide.side turn.new.ram)
    (g.M.RamSide.known turn.new.ram) (g.G.RingSide.side turn.new.ring)
    (g.G.RingSide.known turn.new.ring) (came_to joined)) c.if-branch.true
    (talks-came (record {
      keeps = c.away_turns_keep_on.ensures;
      where_to = c.turns_end_where.ensures.away;
      unspent = c.none_is_spent.ensures.away;
    }) g.M.RamSide.alone g.G.RingSide.alone _ _ _ _ _ _ _ _ _ _ did.field-0
    did.ensures.step.station.same did.ensures.step.node.same did.ensures.worker
    did.ensures.came did.ensures.step.station.stands did.ensures.standing k)

pub returns-then-not-ended-clause-talks : goal.returns-then-not-ended-clause-talks
returns-then-not-ended-clause-talks g c =
    let ended = c.has_ended-ended in
    let turn = c.away_turn in
    let did = c.in_ok-away_turn in
    let k = talks-scans c.scans_keep_on.ensures g.M.RamSide.alone c.args.worker.now
    (g.M.RamSide.side c.args.ram.now) (g.M.RamSide.side ended.new.self)
    (g.M.RamSide.known c.args.ram.now) (g.M.RamSide.known ended.new.self)
    (g.G.RingSide.side c.args.ring.now) (g.G.RingSide.known c.args.ring.now)
    ended.ensures.same ended.ensures.went.list c.requires.talks in
    subst (λ (joined : Bool). TalksOn turn.new.self (g.M.RamSide.side turn.new.ram)
    (g.M.RamSide.known turn.new.ram) (g.G.RingSide.side turn.new.ring)
    (g.G.RingSide.known turn.new.ring) (came_to joined)) c.if-branch.false
    (talks-came (record {
      keeps = c.away_turns_keep_on.ensures;
      where_to = c.turns_end_where.ensures.away;
      unspent = c.none_is_spent.ensures.away;
    }) g.M.RamSide.alone g.G.RingSide.alone _ _ _ _ _ _ _ _ _ _ did.field-0
    did.ensures.step.station.same did.ensures.step.node.same did.ensures.worker
    did.ensures.came did.ensures.step.station.stands did.ensures.standing k)

pub returns-clause-talks : goal.returns-clause-talks
returns-clause-talks g c =
    let ended = c.has_ended-ended in
    let turn = c.away_turn in
    let did = c.in_ok-away_turn in
    let visit = c.in_ok-visit_end in
    let first = g.M.RamSide.side ended.new.self in
    let known = g.M.RamSide.known ended.new.self in
    let k = talks-scans c.scans_keep_on.ensures g.M.RamSide.alone c.args.worker.now
    (g.M.RamSide.side c.args.ram.now) first
    (g.M.RamSide.known c.args.ram.now) known
    (g.G.RingSide.side c.args.ring.now) (g.G.RingSide.known c.args.ring.now)
    ended.ensures.same ended.ensures.went.list c.requires.talks in
    let away = subst (λ (joined : Bool). TalksOn turn.new.self (g.M.RamSide.side turn.new.ram)
    (g.M.RamSide.known turn.new.ram) (g.G.RingSide.side turn.new.ring)
    (g.G.RingSide.known turn.new.ring) (came_to joined)) c.if-branch.false
    (talks-came (record {
      keeps = c.away_turns_keep_on.ensures;
      where_to = c.turns_end_where.ensures.away;
      unspent = c.none_is_spent.ensures.away;
    }) g.M.RamSide.alone g.G.RingSide.alone _ _ _ _ _ _ _ _ _ _ did.field-0
    did.ensures.step.station.same did.ensures.step.node.same did.ensures.worker
    did.ensures.came did.ensures.step.station.stands did.ensures.standing k) in
    let out = is-out c.visits_collect.ensures.ended g.M.RamSide.alone g.G.RingSide.alone
    first.fixed c.args.worker.now.node known (g.M.RamSide.known turn.new.ram)
    (g.G.RingSide.known c.args.ring.now) (g.G.RingSide.known turn.new.ring)
    (subst (ComesBack g.M.RamSide.alone g.G.RingSide.alone first.fixed c.args.worker.now.node known
    (g.M.RamSide.known turn.new.ram) (g.G.RingSide.known c.args.ring.now)
    (g.G.RingSide.known turn.new.ring)) c.if-branch.false did.ensures.came)
    did.ensures.step.station.stands
    (subst (λ m. IsLegal m.fixed known) (sym ended.ensures.same) ended.ensures.legal)
    (subst (λ m. has_ended_at m.fixed known ≡ true) (sym ended.ensures.same)
    (sym ended.ensures.answer ∙ c.if-not-ended.false)) in
    talks-visited (record {
      keeps = c.visits_keep_on.ensures;
      collects = c.visits_collect.ensures.visits;
      unspent = c.none_is_spent.ensures.visits;
    }) g.M.RamSide.alone g.G.RingSide.alone _ _ _ _ _ _ _ _ _ _
    visit.ensures.step.station.same visit.ensures.step.node.same visit.ensures.worker
    visit.ensures.visited visit.ensures.step.station.stands
    (subst (λ m. IsOutForGood m.fixed (g.M.RamSide.known turn.new.ram))
    (sym did.ensures.step.station.same) out) visit.ensures.standing away
