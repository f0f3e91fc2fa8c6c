use Rattle.std.proofs.Common.{◌≡◌, ℕ, true, List, [], ◌∷◌, sym, ap, ◌∙◌, subst, refl, arith}
use Rattle.plant_types.specs.declared.net.NetPlan.{NetPlan}
use Rattle.ring_core.specs.Machine.{addresses, fresh, is_here, part_of, ring_after, ring_node}
use Rattle.ring_core.specs.Machine.{with_members}
use Rattle.ring_core.specs.declared.entry.RingEntry.{RingEntry}
use Rattle.std.proofs.Common.{replicate, None, false}
use Rattle.tied_lists.specs.Waits.{Holds}
use Rattle.comm_port.specs.Sides.{RamSideIs, RingSideIs}
use Rattle.comm_port.specs.Worker.{IsMemberWorker, Standing, WorkerIs, new_worker}
use Rattle.comm_port.proofs.Onward.{none-bridges}
use Rattle.comm_port.proofs.Standings.{standing-new, first-here}
use Rattle.port_tests.proofs.turns.turn_on.Goals as goal

pub hold_turn-requires-clause-standing : goal.hold_turn-requires-clause-standing
hold_turn-requires-clause-standing c =
    let ram : RamSideIs (Unit {0}) = record { fixed = c.args.controller.now.fixed; place = tt } in
    let side : RingSideIs (Unit {0}) =
    record { net = c.args.ring.now.net; writer = None; place = tt } in
    let known = c.args.controller.now.history in
    subst (λ (w : WorkerIs). Standing w ram known side c.args.ring.now.history)
    (sym c.in_ok-worker.ensures)
    (subst (λ (r : List RingEntry). Standing (new_worker 2 true) ram known side r)
    (sym c.requires.empty) (standing-new 2 true ram known side c.requires.node
    (subst (λ (m : NetPlan). IsMemberWorker m 2) (sym c.requires.ring) (record {
      members = c.requires.members;
      member = rw c.requires.first.is (0, omega arith, refl);
      answer = rw c.requires.answer (omega arith);
    })) tt c.requires.events))

pub hold_turn-requires-clause-no_bridge : goal.hold_turn-requires-clause-no_bridge
hold_turn-requires-clause-no_bridge c = none-bridges c.args.ring.now.net _
    (ap (λ (m : NetPlan). m.bridges) c.requires.ring ∙ c.requires.alone)

here-of : (net : NetPlan) (rest : List ℕ) → net.members ≡ 2 ∷ rest
    → is_here (ring_node (ring_after net []) 2) ≡ true
here-of net rest is =
    ap (λ (l : List ℕ). is_here (part_of (with_members (replicate addresses (fresh false)) l) 2)) is
    ∙ first-here 2 rest (omega arith)

pub hold_turn-requires-clause-holds : goal.hold_turn-requires-clause-holds
hold_turn-requires-clause-holds c =
    let net = c.args.ring.now.net in
    let members : net.members ≡ 2 ∷ c.requires.first.rest =
    ap (λ (m : NetPlan). m.members) c.requires.ring ∙ c.requires.first.is in
    subst (λ (n : ℕ). Holds net c.args.ring.now.history n)
    (sym (ap (λ (w : WorkerIs). w.node) c.in_ok-worker.ensures))
    (subst (λ (r : List RingEntry). Holds net r 2) (sym c.requires.empty)
    (record { holder = c.requires.holder; here = here-of net c.requires.first.rest members }))
