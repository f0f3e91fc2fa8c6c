use Rattle.std.proofs.Common.{◌≡◌, true, Bool, refl, sym, ap, subst, ◌∙◌}
use Rattle.ring_core.specs.Kept.{KeptRing}
use Rattle.controller_core.specs.Controller.{has_ended, has_started, is_off}
use Rattle.joint_history.specs.Reading.{has_started_at}
use Rattle.tied_lists.specs.Waits.{HasLeft, status_at}
use Rattle.std.specs.Prelude.{◌&&◌}
use Rattle.bridge_station.specs.TurnLaws.{KeepsOn}
use Rattle.bridge_station.proofs.TurnLaws.{alone-collects, visit-status}
use Rattle.serial_run.specs.declared.stations.ControllerStation.{ControllerStation}
use Rattle.serial_run.specs.Held.{VisitedWhere, is_visit_due, status_in}
use Rattle.serial_run.specs.Turns.{may_visit}
use Rattle.serial_run.proofs.Keeping.{and-false, and-first, left-asks, out-left, stands-before}
use Rattle.serial_run.proofs.Keeping.{same-worker, stands-behind}
use Rattle.serial_run.proofs.turning.make_visit.Goals as goal

-- whose visit is due has left
has-left : (s : ControllerStation) (ring : KeptRing) → s.node ≡ s.worker.node
    → is_visit_due ring s ≡ true → HasLeft ring.net ring.history s.worker.node
has-left s ring node due =
    out-left (has_ended s.controller && is_off s.controller)
    (status_at ring.net ring.history s.worker.node)
    (ap (λ n. may_visit s.controller.fixed s.controller.history (status_in ring n)) (sym node)
    ∙ and-first _ (has_started s.controller) due)

pub visit_end-requires-clause-left : goal.visit_end-requires-clause-left
visit_end-requires-clause-left c =
    has-left c.args.station.now c.args.ring.now c.requires.node c.requires.due

pub returns : goal.returns
returns c =
    let s = c.args.station.now in
    let o = c.in_ok-visit_end.ensures in
    let ring = c.args.ring.now in
    let v = c.visit_end.new.ram in
    let new_ring = c.visit_end.new.ring in
    let fixed = ap (λ side. side.fixed) o.step.station.same in
    let net = ap (λ side. side.net) o.step.node.same in
    let out = has-left s ring c.requires.node c.requires.due in
    let gone = c.requires.left ∙ out in
    record {
      stays = record {
        node = refl;
        network = refl;
        worker = same-worker s.worker c.visit_end.new.self o.worker;
        fixed = ap (λ side. side.fixed) o.step.station.same;
        legal = c.history.ensures.legal;
        net = ap (λ side. side.net) o.step.node.same;
        ring_legal = c.history-2.ensures.legal;
        stands = o.standing;
      };
      left = refl;
      visit = subst (λ (b : Bool). VisitedWhere b s
          (record {
            node = s.node;
            network = s.network;
            controller = c.visit_end.new.ram;
            worker = c.visit_end.new.self;
            left = s.left;
          })
          c.args.ring.now c.visit_end.new.ring) (sym c.requires.due) o.visited;
      keeps = subst (λ (b : Bool). KeepsOn s.controller.fixed ring.net s.worker.node v.history
          new_ring.history b) (sym gone)
          (c.visits_keep_on.ensures true true s.controller.fixed ring.net s.worker.node
          s.controller.history v.history ring.history new_ring.history
          o.visited
          (stands-before s.worker s.controller ring c.requires.keeps.member c.requires.keeps.legal
          c.requires.stands)
          (stands-behind s.worker c.visit_end.new.self s.controller v ring new_ring
          c.requires.keeps.member c.history.ensures.legal
          (same-worker s.worker c.visit_end.new.self o.worker) fixed net
          o.standing)
          (subst (λ (b : Bool). KeepsOn s.controller.fixed ring.net s.worker.node
          s.controller.history ring.history b) gone c.requires.keeps.keeps));
      status = visit-status true true s.controller.fixed ring.net s.worker.node
          s.controller.history v.history ring.history new_ring.history o.visited
          (left-asks (status_at ring.net ring.history s.worker.node) out);
      visited = and-false _ _ (ap (λ f. has_started_at f v.history) fixed
          ∙ alone-collects c.calls_follow.ensures s.controller.fixed true ring.net s.worker.node
          s.controller.history v.history
          ring.history new_ring.history o.visited);
    }
