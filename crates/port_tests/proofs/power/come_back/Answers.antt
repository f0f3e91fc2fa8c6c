use Rattle.std.proofs.Common.{ℕ, List, sym, ap, ◌∙◌, subst}
use Rattle.plant_types.specs.declared.net.NetPlan.{NetPlan}
use Rattle.ring_core.specs.declared.entry.RingEntry.{RingEntry}
use Rattle.comm_port.specs.Failing.{IsAway}
use Rattle.comm_port.specs.Worker.{WorkerIs}
use Rattle.port_tests.specs.PowerTests.{CanTurn}
use Rattle.port_tests.proofs.Ready.{not-true, ready-after, ready-others}
use Rattle.port_tests.proofs.power.come_back.Goals as goal

pub away_turn-requires-clause-standing : goal.away_turn-requires-clause-standing
away_turn-requires-clause-standing c = c.requires.mine.standing

pub away_turn-requires-clause-away : goal.away_turn-requires-clause-away
away_turn-requires-clause-away c =
    subst (λ (n : ℕ). IsAway c.args.ring.now.net c.args.ring.now.history n)
    (sym c.requires.mine.worker_node) (c.requires.mine.is_away c.requires.away)

pub returns-clause-mine : goal.returns-clause-mine
returns-clause-mine c =
    let e = c.in_ok-joined.ensures in
    let mine = c.requires.mine in
    ready-after c.args.node _ c.args.station.now.worker _ _ c.args.ring.now.net _ _ _ mine.on
    mine.no_bridge mine.worker_node
    (ap (λ (x : WorkerIs). x.node) e.worker) (ap (λ s. s.net) e.step.node.same) e.standing
    (λ told. subst (λ (r : List RingEntry). IsAway c.args.ring.now.net r c.args.node)
    (sym (e.came.stays (not-true _ told))) (mine.is_away c.requires.away))

pub returns-clause-theirs : goal.returns-clause-theirs
returns-clause-theirs c =
    let e = c.in_ok-joined.ensures in
    let other = c.args.other.now in
    let step = e.step.node in
    subst (λ (net : NetPlan). CanTurn c.args.other_node other.controller other.worker other.away net
    c.away_turn.new.ring.history) (sym (ap (λ s. s.net) step.same))
    (ready-others c.args.other_node c.args.station.now.worker.node other.controller other.worker
    other.away c.args.ring.now.net _ step.stands.grown.added _
    (λ is. c.requires.apart (is ∙ c.requires.mine.worker_node)) step.stands.legal
    step.stands.grown.grew c.requires.theirs)
