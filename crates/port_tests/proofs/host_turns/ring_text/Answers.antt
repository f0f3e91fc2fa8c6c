use Rattle.std.proofs.Common.{List, sym, ap, ◌∙◌, subst, arith}
use Rattle.plant_types.specs.declared.net.NetPlan.{NetPlan}
use Rattle.ring_core.specs.declared.entry.RingEntry.{RingEntry}
use Rattle.comm_port.specs.HostStands.{HostIsReady}
use Rattle.comm_port.proofs.HostStandings.{stands-one, stands-two}
use Rattle.port_tests.proofs.host_turns.ring_text.Goals as goal

pub held_text-text-requires-clause-one : goal.held_text-text-requires-clause-one
held_text-text-requires-clause-one g c =
    let s = c.in_ok-one.one in
    let e = c.in_ok-one.ensures in
    let ring = c.in_ok-ring.ensures in
    let net = c.in_ok-ring.ring.net in
    let members = ap (λ (x : NetPlan). x.members) ring.net ∙ c.requires.members in
    let alone = ap (λ (x : NetPlan). x.bridges) ring.net ∙ c.requires.alone in
    let answer = ap (λ (x : NetPlan). x.answer) ring.net ∙ c.requires.answer in
    subst (λ (r : List RingEntry). HostIsReady 1 s.host s.worker s.left net r) (sym ring.empty)
    (stands-one s.host s.worker s.left net members alone
    (omega (arith, answer)) e.node e.history e.worker)

pub held_text-text-requires-clause-two : goal.held_text-text-requires-clause-two
held_text-text-requires-clause-two g c =
    let s = c.in_ok-two.two in
    let e = c.in_ok-two.ensures in
    let ring = c.in_ok-ring.ensures in
    let net = c.in_ok-ring.ring.net in
    let members = ap (λ (x : NetPlan). x.members) ring.net ∙ c.requires.members in
    let alone = ap (λ (x : NetPlan). x.bridges) ring.net ∙ c.requires.alone in
    let answer = ap (λ (x : NetPlan). x.answer) ring.net ∙ c.requires.answer in
    subst (λ (r : List RingEntry). HostIsReady 2 s.host s.worker s.left net r) (sym ring.empty)
    (stands-two s.host s.worker s.left net members alone
    (omega (arith, answer)) e.node e.history e.worker)
