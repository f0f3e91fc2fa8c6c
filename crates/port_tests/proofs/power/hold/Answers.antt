use Rattle.std.proofs.Common.{ℕ, sym, ap, ◌∙◌, subst}
use Rattle.plant_types.specs.declared.net.NetPlan.{NetPlan}
use Rattle.tied_lists.specs.Waits.{Holds}
use Rattle.comm_port.specs.Failing.{IsAway}
use Rattle.comm_port.specs.Turns.{IsNoBridge}
use Rattle.comm_port.specs.Worker.{WorkerIs}
use Rattle.port_tests.specs.PowerTests.{CanTurn}
use Rattle.port_tests.proofs.Ready.{away-held, ready-after, ready-others}
use Rattle.port_tests.proofs.power.hold.Goals as goal

pub hold_turn-requires-clause-standing : goal.hold_turn-requires-clause-standing
hold_turn-requires-clause-standing c = c.requires.mine.standing

pub hold_turn-requires-clause-holds : goal.hold_turn-requires-clause-holds
hold_turn-requires-clause-holds c =
    subst (λ (n : ℕ). Holds c.args.ring.now.net c.args.ring.now.history n)
    (sym c.requires.mine.worker_node) c.requires.holds

pub hold_turn-requires-clause-no_bridge : goal.hold_turn-requires-clause-no_bridge
hold_turn-requires-clause-no_bridge c =
    subst (IsNoBridge c.args.ring.now.net) (sym c.requires.mine.worker_node)
    c.requires.mine.no_bridge

pub returns-clause-mine : goal.returns-clause-mine
returns-clause-mine c =
    let e = c.in_ok-end.ensures in
    let mine = c.requires.mine in
    ready-after c.args.node _ c.args.station.now.worker _ _ c.args.ring.now.net _ _ _ mine.on
    mine.no_bridge mine.worker_node
    (ap (λ (x : WorkerIs). x.node) e.worker) (ap (λ s. s.net) e.step.node.same) e.standing
    (λ told. subst (λ (n : ℕ). IsAway c.args.ring.now.net c.hold_turn.new.ring.history n)
    mine.worker_node (away-held _ _ _ _ _ _ _ _ _ e.held (c.is_away-station.ensures told)))

pub returns-clause-theirs : goal.returns-clause-theirs
returns-clause-theirs c =
    let e = c.in_ok-end.ensures in
    let other = c.args.other.now in
    let step = e.step.node in
    subst (λ (net : NetPlan). CanTurn c.args.other_node other.controller other.worker other.away net
    c.hold_turn.new.ring.history) (sym (ap (λ s. s.net) step.same))
    (ready-others c.args.other_node c.args.station.now.worker.node other.controller other.worker
    other.away c.args.ring.now.net _ step.stands.grown.added _
    (λ is. c.requires.apart (is ∙ c.requires.mine.worker_node)) step.stands.legal
    step.stands.grown.grew c.requires.theirs)
