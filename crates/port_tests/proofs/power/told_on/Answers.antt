use Rattle.std.proofs.Common.{List, sym, subst}
use Rattle.plant_types.specs.declared.net.NetPlan.{NetPlan}
use Rattle.ring_core.specs.declared.entry.RingEntry.{RingEntry}
use Rattle.port_tests.specs.PowerTests.{CanTurn}
use Rattle.port_tests.proofs.power.told_on.Goals as goal

pub told_by-requires-clause-two : goal.told_by-requires-clause-two
told_by-requires-clause-two g c =
    let ring = c.in_ok-ring.ensures in
    let s = c.args.two.now in
    subst (λ (net : NetPlan). CanTurn 2 s.controller s.worker s.away net
    c.in_ok-ring.ring.history) (sym ring.net)
    (subst (λ (r : List RingEntry). CanTurn 2 s.controller s.worker s.away c.args.net.now r)
    (sym ring.empty) c.requires.two)

pub told_by-requires-clause-five : goal.told_by-requires-clause-five
told_by-requires-clause-five g c =
    let ring = c.in_ok-ring.ensures in
    let s = c.args.five.now in
    subst (λ (net : NetPlan). CanTurn 5 s.controller s.worker s.away net
    c.in_ok-ring.ring.history) (sym ring.net)
    (subst (λ (r : List RingEntry). CanTurn 5 s.controller s.worker s.away c.args.net.now r)
    (sym ring.empty) c.requires.five)
