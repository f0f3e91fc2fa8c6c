use Rattle.std.proofs.Common.{◌≡◌, Bool, refl, sym, ◌∙◌, subst}
use Rattle.std.specs.Prelude.{is_some}
use Rattle.plant_types.specs.declared.net.NetPlan.{NetPlan}
use Rattle.ring_core.specs.Machine.{ring_after}
use Rattle.ring_core.specs.Scratch.{words_put}
use Rattle.comm_port.specs.Leaving.{HandedOn, IsHere, cause_due}
use Rattle.comm_port.proofs.HostAsks.{gone-with, stays-with}
use Rattle.comm_port.proofs.Leaves.{quiet-due}
use Rattle.comm_port.proofs.Parts.{net-as}
use Rattle.comm_port.proofs.TurnsEnded.{left-at}
use Rattle.bridge_port.specs.EndParts.{LeavesIf}
use Rattle.bridge_port.proofs.EndSteps.{end-ring, end-then}
use Rattle.bridge_port.proofs.Leaves.{Asked, asked-at, end-handed}
use Rattle.bridge_port.proofs.ending.end_turn.Goals as goal

pub hand_on-requires-clause-holds : goal.hand_on-requires-clause-holds
hand_on-requires-clause-holds g c =
    let bs = g.B.BridgeSide in
    let rs = g.R.RingSide in
    let n = c.args.side in
    let d = c.is_done-done.ensures in
    let side = rs.side c.args.ring.now in
    let there = rs.side c.is_done-done.new.ring in
    let asked = rs.known c.is_done-done.new.ring in
    let before : Asked n side (rs.known c.args.ring.now) = record {
      holds = c.requires.holds;
      wait = c.requires.wait;
      rest = c.requires.rest;
      inbox = c.requires.empty;
    } in
    let a = asked-at c.args.has_posted bs.alone rs.alone (bs.bridge c.args.bridge.now).plan n
    (bs.known c.args.bridge.now) (bs.known c.is_done-done.new.bridge) side there
    (rs.known c.args.ring.now) asked c.is_done-done.result d.step.node.same before
    c.requires.turning.own_turn.free d.turning.own_turn.on d.asked in
    a.holds

pub hand_on-requires-clause-sent : goal.hand_on-requires-clause-sent
hand_on-requires-clause-sent g c =
    let bs = g.B.BridgeSide in
    let rs = g.R.RingSide in
    let n = c.args.side in
    let d = c.is_done-done.ensures in
    let side = rs.side c.args.ring.now in
    let there = rs.side c.is_done-done.new.ring in
    let asked = rs.known c.is_done-done.new.ring in
    let before : Asked n side (rs.known c.args.ring.now) = record {
      holds = c.requires.holds;
      wait = c.requires.wait;
      rest = c.requires.rest;
      inbox = c.requires.empty;
    } in
    let a = asked-at c.args.has_posted bs.alone rs.alone (bs.bridge c.args.bridge.now).plan n
    (bs.known c.args.bridge.now) (bs.known c.is_done-done.new.bridge) side there
    (rs.known c.args.ring.now) asked c.is_done-done.result d.step.node.same before
    c.requires.turning.own_turn.free d.turning.own_turn.on d.asked in
    a.rest.all_sent

pub hand_on-requires-clause-taken : goal.hand_on-requires-clause-taken
hand_on-requires-clause-taken g c =
    let bs = g.B.BridgeSide in
    let rs = g.R.RingSide in
    let n = c.args.side in
    let d = c.is_done-done.ensures in
    let side = rs.side c.args.ring.now in
    let there = rs.side c.is_done-done.new.ring in
    let asked = rs.known c.is_done-done.new.ring in
    let before : Asked n side (rs.known c.args.ring.now) = record {
      holds = c.requires.holds;
      wait = c.requires.wait;
      rest = c.requires.rest;
      inbox = c.requires.empty;
    } in
    let a = asked-at c.args.has_posted bs.alone rs.alone (bs.bridge c.args.bridge.now).plan n
    (bs.known c.args.bridge.now) (bs.known c.is_done-done.new.bridge) side there
    (rs.known c.args.ring.now) asked c.is_done-done.result d.step.node.same before
    c.requires.turning.own_turn.free d.turning.own_turn.on d.asked in
    a.inbox

pub leave_for_good-requires-clause-turning : goal.leave_for_good-requires-clause-turning
leave_for_good-requires-clause-turning g c =
    let bs = g.B.BridgeSide in
    let rs = g.R.RingSide in
    let n = c.args.side in
    let d = c.is_done-done.ensures in
    let side = rs.side c.args.ring.now in
    let there = rs.side c.is_done-done.new.ring in
    let asked = rs.known c.is_done-done.new.ring in
    let before : Asked n side (rs.known c.args.ring.now) = record {
      holds = c.requires.holds;
      wait = c.requires.wait;
      rest = c.requires.rest;
      inbox = c.requires.empty;
    } in
    let a = asked-at c.args.has_posted bs.alone rs.alone (bs.bridge c.args.bridge.now).plan n
    (bs.known c.args.bridge.now) (bs.known c.is_done-done.new.bridge) side there
    (rs.known c.args.ring.now) asked c.is_done-done.result d.step.node.same before
    c.requires.turning.own_turn.free d.turning.own_turn.on d.asked in
    let o = c.in_ok-left.ensures in
    let handed = rs.known c.hand_on.new.ring in
    let quiet = quiet-due there.net (ring_after there.net asked) n c.is_done-done.result
    c.args.budget in
    let h = end-handed rs.alone n c.is_done-done.result (words_put n asked)
    (cause_due there.net (ring_after there.net asked) n c.is_done-done.result c.args.budget)
    (bs.bridge c.is_done-done.new.bridge) (bs.known c.is_done-done.new.bridge) there
    (rs.side c.hand_on.new.ring) asked handed o.step.same quiet o.step.stands.legal o.handed a
    d.turning in
    h.turning (left-at there (rs.side c.hand_on.new.ring) handed n o.step.same
    (gone-with rs.alone there.net n _ _ _ _ _ o.handed (sym c.if-left.true ∙ o.left)))

pub leave_for_good-requires-clause-left : goal.leave_for_good-requires-clause-left
leave_for_good-requires-clause-left g c =
    let rs = g.R.RingSide in
    let o = c.in_ok-left.ensures in
    let there = rs.side c.is_done-done.new.ring in
    left-at there (rs.side c.hand_on.new.ring) (rs.known c.hand_on.new.ring) c.args.side o.step.same
    (gone-with rs.alone there.net c.args.side _ _ _ _ _ o.handed (sym c.if-left.true ∙ o.left))

pub leave_for_good-requires-clause-wait : goal.leave_for_good-requires-clause-wait
leave_for_good-requires-clause-wait g c =
    let bs = g.B.BridgeSide in
    let rs = g.R.RingSide in
    let n = c.args.side in
    let d = c.is_done-done.ensures in
    let side = rs.side c.args.ring.now in
    let there = rs.side c.is_done-done.new.ring in
    let asked = rs.known c.is_done-done.new.ring in
    let before : Asked n side (rs.known c.args.ring.now) = record {
      holds = c.requires.holds;
      wait = c.requires.wait;
      rest = c.requires.rest;
      inbox = c.requires.empty;
    } in
    let a = asked-at c.args.has_posted bs.alone rs.alone (bs.bridge c.args.bridge.now).plan n
    (bs.known c.args.bridge.now) (bs.known c.is_done-done.new.bridge) side there
    (rs.known c.args.ring.now) asked c.is_done-done.result d.step.node.same before
    c.requires.turning.own_turn.free d.turning.own_turn.on d.asked in
    let o = c.in_ok-left.ensures in
    let handed = rs.known c.hand_on.new.ring in
    let quiet = quiet-due there.net (ring_after there.net asked) n c.is_done-done.result
    c.args.budget in
    let h = end-handed rs.alone n c.is_done-done.result (words_put n asked)
    (cause_due there.net (ring_after there.net asked) n c.is_done-done.result c.args.budget)
    (bs.bridge c.is_done-done.new.bridge) (bs.known c.is_done-done.new.bridge) there
    (rs.side c.hand_on.new.ring) asked handed o.step.same quiet o.step.stands.legal o.handed a
    d.turning in
    h.wait

pub leave_for_good-requires-clause-rest : goal.leave_for_good-requires-clause-rest
leave_for_good-requires-clause-rest g c =
    let bs = g.B.BridgeSide in
    let rs = g.R.RingSide in
    let n = c.args.side in
    let d = c.is_done-done.ensures in
    let side = rs.side c.args.ring.now in
    let there = rs.side c.is_done-done.new.ring in
    let asked = rs.known c.is_done-done.new.ring in
    let before : Asked n side (rs.known c.args.ring.now) = record {
      holds = c.requires.holds;
      wait = c.requires.wait;
      rest = c.requires.rest;
      inbox = c.requires.empty;
    } in
    let a = asked-at c.args.has_posted bs.alone rs.alone (bs.bridge c.args.bridge.now).plan n
    (bs.known c.args.bridge.now) (bs.known c.is_done-done.new.bridge) side there
    (rs.known c.args.ring.now) asked c.is_done-done.result d.step.node.same before
    c.requires.turning.own_turn.free d.turning.own_turn.on d.asked in
    let o = c.in_ok-left.ensures in
    let handed = rs.known c.hand_on.new.ring in
    let quiet = quiet-due there.net (ring_after there.net asked) n c.is_done-done.result
    c.args.budget in
    let h = end-handed rs.alone n c.is_done-done.result (words_put n asked)
    (cause_due there.net (ring_after there.net asked) n c.is_done-done.result c.args.budget)
    (bs.bridge c.is_done-done.new.bridge) (bs.known c.is_done-done.new.bridge) there
    (rs.side c.hand_on.new.ring) asked handed o.step.same quiet o.step.stands.legal o.handed a
    d.turning in
    h.rest

pub returns-else-left-clause-ties : goal.returns-else-left-clause-ties
returns-else-left-clause-ties g c =
    let bs = g.B.BridgeSide in
    let rs = g.R.RingSide in
    let n = c.args.side in
    let d = c.is_done-done.ensures in
    let side = rs.side c.args.ring.now in
    let there = rs.side c.is_done-done.new.ring in
    let asked = rs.known c.is_done-done.new.ring in
    let before : Asked n side (rs.known c.args.ring.now) = record {
      holds = c.requires.holds;
      wait = c.requires.wait;
      rest = c.requires.rest;
      inbox = c.requires.empty;
    } in
    let a = asked-at c.args.has_posted bs.alone rs.alone (bs.bridge c.args.bridge.now).plan n
    (bs.known c.args.bridge.now) (bs.known c.is_done-done.new.bridge) side there
    (rs.known c.args.ring.now) asked c.is_done-done.result d.step.node.same before
    c.requires.turning.own_turn.free d.turning.own_turn.on d.asked in
    let o = c.in_ok-left.ensures in
    let handed = rs.known c.hand_on.new.ring in
    let quiet = quiet-due there.net (ring_after there.net asked) n c.is_done-done.result
    c.args.budget in
    let h = end-handed rs.alone n c.is_done-done.result (words_put n asked)
    (cause_due there.net (ring_after there.net asked) n c.is_done-done.result c.args.budget)
    (bs.bridge c.is_done-done.new.bridge) (bs.known c.is_done-done.new.bridge) there
    (rs.side c.hand_on.new.ring) asked handed o.step.same quiet o.step.stands.legal o.handed a
    d.turning in
    h.ties

pub returns-else-left-clause-stays : goal.returns-else-left-clause-stays
returns-else-left-clause-stays g c =
    let rs = g.R.RingSide in
    let o = c.in_ok-left.ensures in
    let n = c.args.side in
    let there = rs.side c.is_done-done.new.ring in
    λ e. net-as (λ (m : NetPlan). IsHere m (rs.known c.hand_on.new.ring) n) _ _ (sym o.step.same)
    (stays-with rs.alone there.net n _ _ _ _ _ o.handed (sym c.if-left.false ∙ o.left))

pub returns-else-left-clause-is_open : goal.returns-else-left-clause-is_open
returns-else-left-clause-is_open g c =
    λ e. c.is_done-done.ensures.turning.is_open

pub returns-else-left-clause-ends : goal.returns-else-left-clause-ends
returns-else-left-clause-ends g c =
    let bs = g.B.BridgeSide in
    let rs = g.R.RingSide in
    let n = c.args.side in
    let d = c.is_done-done.ensures in
    let o = c.in_ok-left.ensures in
    let done = c.is_done-done.result in
    let asked = rs.known c.is_done-done.new.ring in
    let handed = rs.known c.hand_on.new.ring in
    record {
      done = done;
      asked_list = bs.known c.is_done-done.new.bridge;
      asked_ring = asked;
      asked = d.asked;
      left_is = net-as (λ (m : NetPlan). c.in_ok-left.left
          ≡ is_some (cause_due m (ring_after m asked) n done c.args.budget)) _ _ d.step.node.same
          o.left;
      handed_ring = handed;
      handed = net-as (λ (m : NetPlan). HandedOn rs.alone m n done (words_put n asked)
          (cause_due m (ring_after m asked) n done c.args.budget) asked handed) _ _
          d.step.node.same o.handed;
      leaves = subst (λ (b : Bool). LeavesIf b bs.alone rs.alone n
          (bs.known c.is_done-done.new.bridge) (bs.known c.is_done-done.new.bridge) handed
          (rs.known c.hand_on.new.ring)) (sym c.if-left.false)
          (refl, refl);
    }

pub returns-in_ok-leave_for_good-clause-ends : goal.returns-in_ok-leave_for_good-clause-ends
returns-in_ok-leave_for_good-clause-ends g c =
    let bs = g.B.BridgeSide in
    let rs = g.R.RingSide in
    let n = c.args.side in
    let d = c.is_done-done.ensures in
    let o = c.in_ok-left.ensures in
    let done = c.is_done-done.result in
    let asked = rs.known c.is_done-done.new.ring in
    let handed = rs.known c.hand_on.new.ring in
    record {
      done = done;
      asked_list = bs.known c.is_done-done.new.bridge;
      asked_ring = asked;
      asked = d.asked;
      left_is = net-as (λ (m : NetPlan). c.in_ok-left.left
          ≡ is_some (cause_due m (ring_after m asked) n done c.args.budget)) _ _ d.step.node.same
          o.left;
      handed_ring = handed;
      handed = net-as (λ (m : NetPlan). HandedOn rs.alone m n done (words_put n asked)
          (cause_due m (ring_after m asked) n done c.args.budget) asked handed) _ _
          d.step.node.same o.handed;
      leaves = subst (λ (b : Bool). LeavesIf b bs.alone rs.alone n
          (bs.known c.is_done-done.new.bridge) (bs.known c.leave_for_good.new.bridge) handed
          (rs.known c.leave_for_good.new.ring)) (sym c.if-left.true)
          c.in_ok-leave_for_good.ensures.leaves;
    }

pub returns-in_err-left-clause-step : goal.returns-in_err-left-clause-step
returns-in_err-left-clause-step g c =
    let bs = g.B.BridgeSide in
    let rs = g.R.RingSide in
    let d = c.is_done-done.ensures in
    end-then bs rs c.args.side d.step
    (end-ring bs rs c.args.side c.is_done-done.new.bridge d.turning.legal
    c.in_err-left.ensures.step)

pub returns-in_err-leave_for_good-clause-step : goal.returns-in_err-leave_for_good-clause-step
returns-in_err-leave_for_good-clause-step g c =
    let bs = g.B.BridgeSide in
    let rs = g.R.RingSide in
    let d = c.is_done-done.ensures in
    end-then bs rs c.args.side
    (end-then bs rs c.args.side d.step
    (end-ring bs rs c.args.side c.is_done-done.new.bridge d.turning.legal
    c.in_ok-left.ensures.step))
    c.in_err-leave_for_good.ensures.step

pub returns-in_ok-leave_for_good-clause-step : goal.returns-in_ok-leave_for_good-clause-step
returns-in_ok-leave_for_good-clause-step g c =
    let bs = g.B.BridgeSide in
    let rs = g.R.RingSide in
    let d = c.is_done-done.ensures in
    end-then bs rs c.args.side
    (end-then bs rs c.args.side d.step
    (end-ring bs rs c.args.side c.is_done-done.new.bridge d.turning.legal
    c.in_ok-left.ensures.step))
    c.in_ok-leave_for_good.ensures.step

pub returns-else-left-clause-step : goal.returns-else-left-clause-step
returns-else-left-clause-step g c =
    let bs = g.B.BridgeSide in
    let rs = g.R.RingSide in
    let d = c.is_done-done.ensures in
    end-then bs rs c.args.side d.step
    (end-ring bs rs c.args.side c.is_done-done.new.bridge d.turning.legal
    c.in_ok-left.ensures.step)
