use Rattle.std.proofs.Common.{◌≡◌, sym, ap, subst, ◌∙◌}
use Rattle.plant_types.specs.declared.net.HostPlan.{HostPlan}
use Rattle.plant_types.specs.Plans.{IsHostPlan}
use Rattle.ring_core.specs.Words.{request_along}
use Rattle.host_port.specs.Host.{HostIs}
use Rattle.host_port.specs.Kept.{IsDueRequest}
use Rattle.host_port.proofs.Due.{due-request}
use Rattle.host_port.proofs.host.Host.due_request.Goals as goal

pub returns-clause-due : goal.returns-clause-due
returns-clause-due c =
    let v = c.args.self.now in
    let ask = c.in-Some-due_ask.ask.now in
    let sound : IsHostPlan v.plan = subst (λ (p : HostPlan). IsHostPlan p)
    (ap (λ (w : HostIs). w.plan) c.self.view_is) c.self.invariant.sound in
    let same : c.request.result ≡ request_along c.in-Some.id ask.route ask.pdu =
    c.request.ensures
    ∙ ap (request_along c.in-Some.id ask.route) c.in_ok-pdu.ensures in
    subst (IsDueRequest v) (sym same) (due-request v c.args.hold c.in-Some.id ask sound
    (sym c.in-Some.ensures) (sym c.in-Some-due_ask.ensures))
