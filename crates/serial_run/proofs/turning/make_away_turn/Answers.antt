use Rattle.std.proofs.Common.{◌≡◌, true, ◌∙◌, Bool, List, ap, refl, subst, sym, append-nil, ◌++◌}
use Rattle.std.specs.Prelude.{not}
use Rattle.plant_types.specs.declared.net.NetPlan.{NetPlan}
use Rattle.ring_core.specs.Legal.{IsLegalRing}
use Rattle.controller_core.specs.declared.entry.Entry.{Entry}
use Rattle.tied_lists.specs.Waits.{has_left, status_at}
use Rattle.joint_history.specs.Reading.{is_off_at}
use Rattle.comm_port.specs.Failing.{IsAway, join_entries}
use Rattle.comm_port.specs.Worker.{IsSameWorker}
use Rattle.bridge_station.specs.TurnLaws.{KeepsOn}
use Rattle.serial_run.specs.Turns.{coming_back}
use Rattle.serial_run.specs.Held.{is_away, is_away_status}
use Rattle.serial_run.proofs.Keeping.{is-away, off-away, stands-before, stands-behind}
use Rattle.serial_run.proofs.turning.make_away_turn.Goals as goal

pub away_turn-requires-clause-away : goal.away_turn-requires-clause-away
away_turn-requires-clause-away c =
    let s = c.args.station.now in
    let ring = c.args.ring.now in
    let away = is-away (status_at ring.net ring.history s.worker.node) c.requires.away in
    record {
      away = away;
      idle = (c.requires.keeps.keeps.gone (c.requires.left ∙ ap has_left away)).idle;
    }

pub returns : goal.returns
returns c =
    let s = c.args.station.now in
    let ring = c.args.ring.now in
    let n = s.worker.node in
    let v = c.away_turn.new.ram in
    let w = c.away_turn.new.self in
    let new_ring = c.away_turn.new.ring in
    let joined = c.in_ok-joined.joined in
    let o = c.in_ok-joined.ensures in
    let fixed = ap (λ side. side.fixed) o.step.station.same in
    let net = ap (λ side. side.net) o.step.node.same in
    let a = o.came.asks in
    let history : v.history ≡ s.controller.history = a.after_is
    ∙ (append-nil (s.controller.history ++ a.between)
    ∙ (ap (λ (l : List Entry). s.controller.history ++ l) (a.none_alone refl)
    ∙ append-nil s.controller.history)) in
    let away = is-away (status_at ring.net ring.history n) c.requires.away in
    let is_gone = c.requires.left ∙ ap has_left away in
    let here : IsAway ring.net ring.history n = record {
      away = away;
      idle = (c.requires.keeps.keeps.gone is_gone).idle;
    } in
    let legal = subst (λ (p : NetPlan). IsLegalRing p new_ring.history) net
    c.history-2.ensures.legal in
    let ends = c.turns_end_where.ensures.away true true s.controller.fixed ring.net n joined
    s.controller.history v.history ring.history new_ring.history o.came (record {
      members = c.requires.keeps.member.members;
      legal = c.requires.stands.legal;
      member = c.requires.keeps.member.member;
      patient = c.requires.stands.patient;
    }) here legal in
    let off : joined ≡ not (is_off_at s.controller.fixed s.controller.history) =
    o.came.joined_is ∙ ap (λ (l : List Entry). not (is_off_at s.controller.fixed l)) history in
    let same_worker = subst (IsSameWorker s.worker) (sym o.worker) refl in
    record {
      stays = record {
        node = refl;
        network = refl;
        worker = same_worker;
        fixed = fixed;
        legal = c.history.ensures.legal;
        net = net;
        ring_legal = c.history-2.ensures.legal;
        stands = o.standing;
      };
      history = history;
      came = o.came.grew.after_is ∙ ap (λ l. ring.history ++ l)
          (o.came.grew.all_alone refl ∙ (ap (join_entries n) off
          ∙ ap (λ status. coming_back status
          (is_off_at s.controller.fixed s.controller.history) n) (sym away)));
      left = sym ends;
      keeps = c.away_turns_keep_on.ensures true true s.controller.fixed ring.net n joined
          s.controller.history v.history ring.history new_ring.history o.came here
          (stands-before s.worker s.controller ring c.requires.keeps.member c.requires.keeps.legal
          c.requires.stands)
          (stands-behind s.worker w s.controller v ring new_ring c.requires.keeps.member
          c.history.ensures.legal same_worker fixed net o.standing)
          (subst (λ (b : Bool). KeepsOn s.controller.fixed ring.net n s.controller.history
          ring.history b) is_gone c.requires.keeps.keeps);
      off = λ there. ap (λ f. is_off_at f v.history) fixed
          ∙ (ap (is_off_at s.controller.fixed) history
          ∙ off-away (status_at ring.net new_ring.history n) joined
          (is_off_at s.controller.fixed s.controller.history) ends off
          (ap (λ (p : NetPlan). is_away_status (status_at p new_ring.history n)) (sym net)
          ∙ (ap (is_away new_ring) (sym c.requires.node) ∙ there)));
    }
