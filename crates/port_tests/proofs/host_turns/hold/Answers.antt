use Rattle.std.proofs.Common.{sym, ap, ◌∙◌, subst}
use Rattle.plant_types.specs.declared.net.NetPlan.{NetPlan}
use Rattle.comm_port.specs.HostStands.{HostIsReady}
use Rattle.comm_port.specs.Turns.{IsNoBridge}
use Rattle.comm_port.proofs.HostStandings.{stands-on}
use Rattle.port_tests.proofs.host_turns.hold.Goals as goal

pub hold_turn-requires-clause-no_bridge : goal.hold_turn-requires-clause-no_bridge
hold_turn-requires-clause-no_bridge c =
    subst (IsNoBridge c.args.ring.now.net) (sym c.requires.mine.worker_node)
    c.requires.mine.no_bridge

pub returns-clause-theirs : goal.returns-clause-theirs
returns-clause-theirs c =
    let e = c.in_ok-station.ensures in
    let other = c.args.other.now in
    let w = c.args.station.now.worker in
    subst (λ (net : NetPlan). HostIsReady c.args.other_node other.host other.worker other.left net
    c.hold_turn.new.ring.history) (sym (ap (λ s. s.net) e.step.node.same))
    (stands-on c.args.other_node w.node other.host other.worker other.left
    c.args.ring.now.net _ _ _ _ _ _ _
    (λ is. c.requires.apart (is ∙ c.requires.mine.worker_node)) e.step.node.stands.legal e.held
    c.requires.theirs)
