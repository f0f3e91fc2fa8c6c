use Rattle.std.proofs.Common.{true, ◌∙◌, Bool, ap, refl, subst, sym}
use Rattle.plant_types.specs.declared.net.NetPlan.{NetPlan}
use Rattle.ring_core.specs.Legal.{IsLegalRing}
use Rattle.tied_lists.specs.Waits.{status_at}
use Rattle.bridge_station.specs.TurnLaws.{KeepsOn}
use Rattle.serial_run.proofs.Keeping.{left-as, stands-before, stands-behind}
use Rattle.serial_run.proofs.turning.hold_controller.Goals as goal

pub returns : goal.returns
returns c =
    let s = c.args.station.now in
    let ring = c.args.ring.now in
    let v = c.hold_turn.new.ram in
    let w = c.hold_turn.new.self in
    let new_ring = c.hold_turn.new.ring in
    let end = c.in_ok-end.end in
    let o = c.in_ok-end.ensures in
    let held = o.held in
    let fixed = ap (λ side. side.fixed) o.step.station.same in
    let net = ap (λ side. side.net) o.step.node.same in
    let where_is = c.turns_end_where.ensures.holds true true s.controller.fixed ring.net
    s.worker.node s.worker.budget end s.controller.history v.history ring.history new_ring.history
    held (record {
      members = c.requires.keeps.member.members;
      legal = c.requires.stands.legal;
      member = c.requires.keeps.member.member;
      patient = c.requires.stands.patient;
    })
    (subst (λ (n : NetPlan). IsLegalRing n new_ring.history) net c.history-2.ensures.legal) in
    record {
      stays = record {
        node = refl;
        network = refl;
        worker = o.worker;
        fixed = fixed;
        legal = c.history.ensures.legal;
        net = net;
        ring_legal = c.history-2.ensures.legal;
        stands = o.standing;
      };
      end = end;
      turn = held;
      ends_where = where_is;
      left_is = c.leaves_out-station.ensures;
      left = c.leaves_out-station.ensures
          ∙ left-as end (status_at ring.net new_ring.history s.worker.node) where_is.stands;
      keeps = subst (λ (b : Bool). KeepsOn s.controller.fixed ring.net s.worker.node v.history
          new_ring.history b) (sym c.leaves_out-station.ensures)
          (c.turns_keep_on.ensures true true s.controller.fixed ring.net s.worker.node
          s.worker.budget end s.controller.history v.history
          ring.history new_ring.history held
          (stands-before s.worker s.controller ring c.requires.keeps.member c.requires.keeps.legal
          c.requires.stands)
          (stands-behind s.worker w s.controller v ring new_ring c.requires.keeps.member
          c.history.ensures.legal o.worker fixed net o.standing)
          (subst (λ (b : Bool). KeepsOn s.controller.fixed ring.net s.worker.node
          s.controller.history ring.history b) c.requires.here
          c.requires.keeps.keeps));
    }
