use Rattle.std.proofs.Common.{◌≡◌, ◌<◌, Bool, [], sym, ◌∙◌, subst, replicate, false}
use Rattle.plant_types.specs.declared.net.BridgePlan.{BridgePlan}
use Rattle.plant_types.specs.declared.net.NetPlan.{NetPlan}
use Rattle.mstr_block.specs.Table.{network_paths}
use Rattle.ring_core.specs.Legal.{IsLegalRing}
use Rattle.ring_core.specs.Machine.{path_places}
use Rattle.bridge_relay.specs.Laws.{is_by}
use Rattle.tied_lists.specs.Waits.{Holds, IsFree, IsOnRing}
use Rattle.comm_port.specs.Giving.{IsAtRest, MaySend, due_calls, part_at}
use Rattle.comm_port.specs.Parts.{InOrder, PartOf}
use Rattle.comm_port.specs.Turns.{KeepsInbox}
use Rattle.comm_port.proofs.HostHolds.{ok-then}
use Rattle.comm_port.proofs.Parts.{net-as}
use Rattle.comm_port.proofs.RingTurns.{kept-both}
use Rattle.bridge_port.specs.EndParts.{BacksAll, EndsEndTurn, ForwardsOn, HoldsEndTurn, EndGivesUp}
use Rattle.bridge_port.specs.EndParts.{EndSendsAll}
use Rattle.bridge_port.proofs.EndSteps.{end-then}
use Rattle.bridge_port.proofs.HoldTurns.{given-over, may-forward, plan-as, rest-sent}
use Rattle.bridge_port.proofs.Leaves.{rest-given}
use Rattle.bridge_port.proofs.worker.turn.Goals as goal

pub forward_all-requires-clause-wait : goal.forward_all-requires-clause-wait
forward_all-requires-clause-wait g c =
    net-as (λ (m : NetPlan). 0 < m.answer) _ _
    (sym (c.in_ok-give_all_back.ensures.step.node.same
    ∙ c.in_ok-serve_inbox.ensures.step.node.same)) c.requires.wait

pub forward_all-requires-clause-may : goal.forward_all-requires-clause-may
forward_all-requires-clause-may g c =
    let bs = g.B.BridgeSide in
    let rs = g.R.RingSide in
    let n = c.args.side in
    let a = c.in_ok-serve_inbox.ensures in
    let b = c.in_ok-give_all_back.ensures in
    let served = rs.known c.serve_inbox.new.ring in
    let backed = rs.known c.give_all_back.new.ring in
    let one = a.step.node.same in
    let two = b.step.node.same ∙ one in
    let may = may-forward bs.alone rs.alone (rs.side c.args.ring.now).net n
    (bs.bridge c.serve_inbox.new.bridge).plan (bs.known c.serve_inbox.new.bridge)
    (bs.known c.give_all_back.new.bridge) (rs.known c.args.ring.now) served backed
    c.requires.rest c.requires.turning.own_turn.on c.requires.turning.own_turn.free a.ring_adds
    (net-as (λ (m : NetPlan). IsOnRing m served n) _ _ one a.turning.own_turn.on)
    (net-as (λ (m : NetPlan). IsFree m served n) _ _ one a.turning.own_turn.free) b.gave
    (net-as (λ (m : NetPlan). IsLegalRing m backed) _ _ two b.turning.own_turn.on.legal) in
    net-as (λ (m : NetPlan). MaySend m n (replicate path_places false) (part_at m n backed)) _ _
    (sym two) may

pub send_all-requires-clause-holds : goal.send_all-requires-clause-holds
send_all-requires-clause-holds g c =
    let rs = g.R.RingSide in
    let n = c.args.side in
    let a = c.in_ok-serve_inbox.ensures in
    let b = c.in_ok-give_all_back.ensures in
    let d = c.in_ok-posted.ensures in
    net-as (λ (m : NetPlan). Holds m (rs.known c.forward_all.new.ring) n) _ _
    (sym d.step.node.same) (d.kept.holds
    (net-as (λ (m : NetPlan). Holds m (rs.known c.give_all_back.new.ring) n) _ _
    (sym b.step.node.same) (b.kept.holds a.holds)))

pub send_all-requires-clause-wait : goal.send_all-requires-clause-wait
send_all-requires-clause-wait g c =
    net-as (λ (m : NetPlan). 0 < m.answer) _ _
    (sym (c.in_ok-posted.ensures.step.node.same ∙ (c.in_ok-give_all_back.ensures.step.node.same
    ∙ c.in_ok-serve_inbox.ensures.step.node.same))) c.requires.wait

pub send_all-requires-clause-may : goal.send_all-requires-clause-may
send_all-requires-clause-may g c =
    let n = c.args.side in
    let d = c.in_ok-posted.ensures in
    net-as (λ (m : NetPlan). MaySend m n c.in_ok-posted.posted
    (part_at m n (g.R.RingSide.known c.forward_all.new.ring))) _ _ (sym d.step.node.same)
    d.forwarded.may

pub end_turn-requires-clause-holds : goal.end_turn-requires-clause-holds
end_turn-requires-clause-holds g c =
    let rs = g.R.RingSide in
    let n = c.args.side in
    let a = c.in_ok-serve_inbox.ensures in
    let b = c.in_ok-give_all_back.ensures in
    let d = c.in_ok-posted.ensures in
    let e = c.in_ok-send_all.ensures in
    let f = c.in_ok-give_up_where.ensures in
    let called = net-as (λ (m : NetPlan). Holds m (rs.known c.forward_all.new.ring) n) _ _
    (sym d.step.node.same) (d.kept.holds
    (net-as (λ (m : NetPlan). Holds m (rs.known c.give_all_back.new.ring) n) _ _
    (sym b.step.node.same) (b.kept.holds a.holds))) in
    let sent = net-as (λ (m : NetPlan). Holds m (rs.known c.send_all.new.ring) n) _ _
    (sym e.step.node.same) (e.kept.holds called) in
    net-as (λ (m : NetPlan). Holds m (rs.known c.give_up_where.new.ring) n) _ _
    (sym f.step.node.same) (f.kept.holds sent)

pub end_turn-requires-clause-wait : goal.end_turn-requires-clause-wait
end_turn-requires-clause-wait g c =
    net-as (λ (m : NetPlan). 0 < m.answer) _ _
    (sym (c.in_ok-give_up_where.ensures.step.node.same ∙ (c.in_ok-send_all.ensures.step.node.same
    ∙ (c.in_ok-posted.ensures.step.node.same ∙ (c.in_ok-give_all_back.ensures.step.node.same
    ∙ c.in_ok-serve_inbox.ensures.step.node.same))))) c.requires.wait

pub end_turn-requires-clause-rest : goal.end_turn-requires-clause-rest
end_turn-requires-clause-rest g c =
    let bs = g.B.BridgeSide in
    let rs = g.R.RingSide in
    let n = c.args.side in
    let e = c.in_ok-send_all.ensures in
    let f = c.in_ok-give_up_where.ensures in
    let sent = rs.known c.send_all.new.ring in
    let given = rs.known c.give_up_where.new.ring in
    let rest = net-as (λ (m : NetPlan). IsAtRest m n sent) _ _ (sym e.step.node.same)
    (rest-sent bs.alone rs.alone _ n _ _ _ _ e.sent) in
    let legal = net-as (λ (m : NetPlan). IsLegalRing m given) _ _ f.step.node.same
    f.turning.own_turn.on.legal in
    net-as (λ (m : NetPlan). IsAtRest m n given) _ _ (sym f.step.node.same)
    (rest-given bs.alone rs.alone _ n _ _ _ sent given e.turning.own_turn.on legal f.given rest)

pub end_turn-requires-clause-empty : goal.end_turn-requires-clause-empty
end_turn-requires-clause-empty g c =
    let rs = g.R.RingSide in
    let n = c.args.side in
    let a = c.in_ok-serve_inbox.ensures in
    let b = c.in_ok-give_all_back.ensures in
    let d = c.in_ok-posted.ensures in
    let e = c.in_ok-send_all.ensures in
    let f = c.in_ok-give_up_where.ensures in
    let net = (rs.side c.args.ring.now).net in
    let one = a.step.node.same in
    let two = b.step.node.same ∙ one in
    let three = d.step.node.same ∙ two in
    let four = e.step.node.same ∙ three in
    let x = net-as (λ (m : NetPlan). KeepsInbox m n (rs.known c.serve_inbox.new.ring)
    (rs.known c.give_all_back.new.ring)) _ _ one b.kept in
    let y = net-as (λ (m : NetPlan). KeepsInbox m n (rs.known c.give_all_back.new.ring)
    (rs.known c.forward_all.new.ring)) _ _ two d.kept in
    let z = net-as (λ (m : NetPlan). KeepsInbox m n (rs.known c.forward_all.new.ring)
    (rs.known c.send_all.new.ring)) _ _ three e.kept in
    let w = net-as (λ (m : NetPlan). KeepsInbox m n (rs.known c.send_all.new.ring)
    (rs.known c.give_up_where.new.ring)) _ _ four f.kept in
    let all = kept-both net n _ _ _ (kept-both net n _ _ _ x y) (kept-both net n _ _ _ z w) in
    net-as (λ (m : NetPlan). (part_at m n (rs.known c.give_up_where.new.ring)).inbox ≡ []) _ _
    (sym (f.step.node.same ∙ four)) (all.inbox ∙ a.empty)

pub returns-clause-held : goal.returns-clause-held
returns-clause-held g c =
    let bs = g.B.BridgeSide in
    let rs = g.R.RingSide in
    let n = c.args.side in
    let a = c.in_ok-serve_inbox.ensures in
    let b = c.in_ok-give_all_back.ensures in
    let d = c.in_ok-posted.ensures in
    let e = c.in_ok-send_all.ensures in
    let f = c.in_ok-give_up_where.ensures in
    let net = (rs.side c.args.ring.now).net in
    let plan = (bs.bridge c.args.bridge.now).plan in
    let one = a.step.node.same in
    let two = b.step.node.same ∙ one in
    let three = d.step.node.same ∙ two in
    let four = e.step.node.same ∙ three in
    let five = f.step.node.same ∙ four in
    let first = a.step.station.same in
    let second = b.step.station.same ∙ first in
    let fifth = f.step.station.same ∙ (e.step.station.same ∙ (d.step.station.same ∙ second)) in
    let l0 = bs.known c.args.bridge.now in
    let l1 = bs.known c.serve_inbox.new.bridge in
    let l2 = bs.known c.give_all_back.new.bridge in
    let l3 = bs.known c.forward_all.new.bridge in
    let l4 = bs.known c.send_all.new.bridge in
    let l5 = bs.known c.give_up_where.new.bridge in
    let l6 = bs.known c.end_turn.new.bridge in
    let r0 = rs.known c.args.ring.now in
    let r1 = rs.known c.serve_inbox.new.ring in
    let r2 = rs.known c.give_all_back.new.ring in
    let r3 = rs.known c.forward_all.new.ring in
    let r4 = rs.known c.send_all.new.ring in
    let r5 = rs.known c.give_up_where.new.ring in
    let r6 = rs.known c.end_turn.new.ring in
    let fresh = c.in_ok-posted.posted in
    let forwards = net-as (λ (m : NetPlan). ForwardsOn bs.alone rs.alone plan m n l2 l3 r2 r3 fresh)
    _ _ two (plan-as (λ (p : BridgePlan). ForwardsOn bs.alone rs.alone p
    (rs.side c.give_all_back.new.ring).net n l2 l3 r2 r3 fresh) _ _ second d.forwarded) in
    let sends = net-as (λ (m : NetPlan). EndSendsAll bs.alone rs.alone m n l3 l4 r3 r4) _ _ three
    e.sent in
    let called = net-as (λ (m : NetPlan). Holds m r3 n) _ _ two (d.kept.holds
    (net-as (λ (m : NetPlan). Holds m r2 n) _ _ (sym b.step.node.same) (b.kept.holds a.holds))) in
    let holds = (net-as (λ (m : NetPlan). KeepsInbox m n r3 r4) _ _ three e.kept).holds called in
    ok-then (EndsEndTurn bs.alone rs.alone (bs.bridge c.give_up_where.new.bridge).plan
    (rs.side c.give_up_where.new.ring).net n c.args.budget c.is_any_chosen.result l5 l6 r5 r6)
    (HoldsEndTurn bs.alone rs.alone plan net n c.args.budget l0 l6 r0 r6) c.end_turn.result
    (λ left ends. record {
      served_list = l1;
      served_ring = r1;
      serves = a.served;
      all_served = a.empty;
      backed_list = l2;
      backed_ring = r2;
      backs = plan-as (λ (p : BridgePlan). BacksAll bs.alone rs.alone p n l1 l2 r1 r2) _ _ first
          b.gave;
      called_list = l3;
      called_ring = r3;
      forwards = forwards.all;
      sent_list = l4;
      sent_ring = r4;
      sends = sends;
      given_list = l5;
      given_ring = r5;
      gives_up = given-over bs.alone rs.alone net n l4 l5 r4 r5 holds
          (rest-sent bs.alone rs.alone net n l3 l4 r3 r4 sends)
          (net-as (λ (m : NetPlan). PartOf bs.alone rs.alone (is_by n) n
          (InOrder (EndGivesUp n) (due_calls m n r4 network_paths)) l4 l5 r4 r5) _ _ four f.given);
      ends = subst (λ (some : Bool). EndsEndTurn bs.alone rs.alone plan net n c.args.budget some
          l5 l6 r5 r6 left) (c.is_any_chosen.ensures ∙ sym forwards.any)
          (net-as (λ (m : NetPlan). EndsEndTurn bs.alone rs.alone plan m n c.args.budget
          c.is_any_chosen.result l5 l6 r5 r6 left) _ _ five
          (plan-as (λ (p : BridgePlan). EndsEndTurn bs.alone rs.alone p
          (rs.side c.give_up_where.new.ring).net n c.args.budget c.is_any_chosen.result l5 l6 r5 r6
          left) _ _ fifth ends));
    }) c.end_turn.ensures.ends

pub returns-in_err-give_all_back-clause-step : goal.returns-in_err-give_all_back-clause-step
returns-in_err-give_all_back-clause-step g c =
    let bs = g.B.BridgeSide in
    let rs = g.R.RingSide in
    let n = c.args.side in
    end-then bs rs n c.in_ok-serve_inbox.ensures.step c.in_err-give_all_back.ensures.step

pub returns-in_err-posted-clause-step : goal.returns-in_err-posted-clause-step
returns-in_err-posted-clause-step g c =
    let bs = g.B.BridgeSide in
    let rs = g.R.RingSide in
    let n = c.args.side in
    let ab = end-then bs rs n c.in_ok-serve_inbox.ensures.step
    c.in_ok-give_all_back.ensures.step in
    end-then bs rs n ab c.in_err-posted.ensures.step

pub returns-in_err-send_all-clause-step : goal.returns-in_err-send_all-clause-step
returns-in_err-send_all-clause-step g c =
    let bs = g.B.BridgeSide in
    let rs = g.R.RingSide in
    let n = c.args.side in
    let ab = end-then bs rs n c.in_ok-serve_inbox.ensures.step
    c.in_ok-give_all_back.ensures.step in
    let abd = end-then bs rs n ab c.in_ok-posted.ensures.step in
    end-then bs rs n abd c.in_err-send_all.ensures.step

pub returns-in_err-give_up_where-clause-step : goal.returns-in_err-give_up_where-clause-step
returns-in_err-give_up_where-clause-step g c =
    let bs = g.B.BridgeSide in
    let rs = g.R.RingSide in
    let n = c.args.side in
    let ab = end-then bs rs n c.in_ok-serve_inbox.ensures.step
    c.in_ok-give_all_back.ensures.step in
    let abd = end-then bs rs n ab c.in_ok-posted.ensures.step in
    let abde = end-then bs rs n abd c.in_ok-send_all.ensures.step in
    end-then bs rs n abde c.in_err-give_up_where.ensures.step

pub returns-clause-step : goal.returns-clause-step
returns-clause-step g c =
    let bs = g.B.BridgeSide in
    let rs = g.R.RingSide in
    let n = c.args.side in
    let ab = end-then bs rs n c.in_ok-serve_inbox.ensures.step
    c.in_ok-give_all_back.ensures.step in
    let abd = end-then bs rs n ab c.in_ok-posted.ensures.step in
    let abde = end-then bs rs n abd c.in_ok-send_all.ensures.step in
    let abdef = end-then bs rs n abde c.in_ok-give_up_where.ensures.step in
    end-then bs rs n abdef c.end_turn.ensures.step
