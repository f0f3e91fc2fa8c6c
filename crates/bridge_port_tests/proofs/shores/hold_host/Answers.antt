use Rattle.std.proofs.Common.{sym, ap, ◌∙◌, subst}
use Rattle.plant_types.specs.declared.net.NetPlan.{NetPlan}
use Rattle.bridge_port.specs.Stands.{EndIsReady}
use Rattle.bridge_port_tests.proofs.Ready.{end-stays}
use Rattle.bridge_port_tests.proofs.shores.hold_host.Goals as goal

pub returns-clause-end : goal.returns-clause-end
returns-clause-end c =
    let e = c.in_ok-shore.ensures in
    let s = c.args.shore.now in
    let step = e.step.node in
    subst (λ (net : NetPlan). EndIsReady c.args.side s.end_worker s.end_left c.args.bridge.now net
    c.hold_turn.new.ring.history) (sym (ap (λ r. r.net) step.same))
    (end-stays c.args.side s.host_worker.node s.end_worker s.end_left c.args.bridge.now s.ring.net
    s.ring.history step.stands.grown.added c.hold_turn.new.ring.history
    (λ is. c.requires.apart (is ∙ c.requires.host.worker_node)) step.stands.legal
    step.stands.grown.grew c.requires.end)
