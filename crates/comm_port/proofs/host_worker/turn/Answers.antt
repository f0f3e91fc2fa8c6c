use Rattle.plant_types.specs.declared.net.NetPlan.{NetPlan}
use Rattle.ring_core.specs.Legal.{IsLegalRing}
use Rattle.tied_lists.specs.Waits.{IsOnRing, Holds}
use Rattle.comm_port.specs.Giving.{part_at, IsAtRest}
use Rattle.comm_port.proofs.HostBoxes.{inbox-empty, rest-due}
use Rattle.comm_port.proofs.Parts.{net-as}
use Rattle.std.proofs.Common.{sym, ◌≡◌, ◌∙◌, ◌<◌, []}
use Rattle.mstr_block.specs.Table.{network_paths}
use Rattle.comm_port.specs.HostTurns.{EndsHostTurn, HoldsHostTurn}
use Rattle.comm_port.proofs.HostAsked.{asked-all-at}
use Rattle.comm_port.proofs.HostGives.{gives-at}
use Rattle.comm_port.proofs.HostHolds.{asks-of, ends-at, ok-then, sends-of}
use Rattle.comm_port.proofs.HostSends.{sends-out-at}
use Rattle.comm_port.proofs.Steps.{host-then}
use Rattle.comm_port.proofs.host_worker.turn.Goals as goal

pub returns-clause-held : goal.returns-clause-held
returns-clause-held g c =
    let alone = g.R.RingSide.alone in
    let n = c.args.node in
    let side = g.R.RingSide.side in
    let plan = c.args.host.now.plan in
    let a = g.R.RingSide.known c.args.ring.now in
    let b = g.R.RingSide.known c.serve_inbox.new.ring in
    let d = g.R.RingSide.known c.ask_all.new.ring in
    let e = g.R.RingSide.known c.send_all.new.ring in
    let f = g.R.RingSide.known c.give_up_where.new.ring in
    let z = g.R.RingSide.known c.end_turn.new.ring in
    let serves = c.in_ok-serve_inbox.ensures in
    let asks = c.in_ok-fresh.ensures in
    let sends = c.in_ok-send_all.ensures in
    let gives = c.in_ok-give_up_where.ensures in
    let same1 = serves.step.node.same in
    let same2 = asks.step.node.same ∙ same1 in
    let same3 = sends.step.node.same ∙ same2 in
    let same4 = gives.step.node.same ∙ same3 in
    let plan1 = serves.step.plan in
    let plan4 = gives.step.plan ∙ (sends.step.plan ∙ (asks.step.plan ∙ plan1)) in
    let before = side c.args.ring.now in
    let asked = asks-of alone before.net n plan c.args.hold c.args.host.now.history _ _ a b d _
    c.serve_inbox.new.host.plan plan1 c.history.ensures.sound
    c.requires.hold (asked-all-at alone n _ c.args.hold _ _ _ _ _ (side c.serve_inbox.new.ring)
    before (sym same1) asks.asked) in
    ok-then (EndsHostTurn alone (side c.give_up_where.new.ring).net n c.give_up_where.new.host.plan
    c.args.budget c.give_up_where.new.host.history
    c.end_turn.new.host.history f z)
    (HoldsHostTurn alone before.net n plan c.args.budget c.args.host.now.history
    c.end_turn.new.host.history a z) c.end_turn.result
    (λ left ends. record {
      served_list = c.serve_inbox.new.host.history;
      asked_list = c.ask_all.new.host.history;
      sent_list = c.send_all.new.host.history;
      given_list = c.give_up_where.new.host.history;
      served_ring = b;
      asked_ring = d;
      sent_ring = e;
      given_ring = f;
      asks = asked.asks;
      serves = serves.served;
      makes = asked.makes;
      sends = sends-of alone before.net n _ _ _ _ _ _ asked.same
          (sends-out-at alone n _ _ _ _ _ (side c.ask_all.new.ring) before (sym same2) sends.sends);
      gives_up = gives-at alone n network_paths _ _ _ _ (side c.send_all.new.ring) before
          (sym same3) gives.gives_up;
      ends = ends-at alone n plan c.give_up_where.new.host.plan c.args.budget _ _ _ _ left before
          (side c.give_up_where.new.ring) same4 plan4 ends;
    }) c.end_turn.ensures.ends

pub send_all-requires-clause-wait : goal.send_all-requires-clause-wait
send_all-requires-clause-wait g c =
    net-as (λ (m : NetPlan). 0 < m.answer) _ _
    (sym (c.in_ok-fresh.ensures.step.node.same ∙ c.in_ok-serve_inbox.ensures.step.node.same))
    c.requires.wait

pub end_turn-requires-clause-wait : goal.end_turn-requires-clause-wait
end_turn-requires-clause-wait g c =
    net-as (λ (m : NetPlan). 0 < m.answer) _ _
    (sym (c.in_ok-give_up_where.ensures.step.node.same ∙ (c.in_ok-send_all.ensures.step.node.same
    ∙ (c.in_ok-fresh.ensures.step.node.same ∙ c.in_ok-serve_inbox.ensures.step.node.same))))
    c.requires.wait

pub end_turn-requires-clause-empty : goal.end_turn-requires-clause-empty
end_turn-requires-clause-empty g c =
    let alone = g.R.RingSide.alone in
    let n = c.args.node in
    let side = g.R.RingSide.side in
    let before = side c.args.ring.now in
    let a = c.in_ok-serve_inbox.ensures in
    let b = c.in_ok-fresh.ensures in
    let d = c.in_ok-send_all.ensures in
    let e = c.in_ok-give_up_where.ensures in
    let served = g.R.RingSide.known c.serve_inbox.new.ring in
    let asked = g.R.RingSide.known c.ask_all.new.ring in
    let sent = g.R.RingSide.known c.send_all.new.ring in
    let given = g.R.RingSide.known c.give_up_where.new.ring in
    let same2 = b.step.node.same ∙ a.step.node.same in
    let same3 = d.step.node.same ∙ same2 in
    let same4 = e.step.node.same ∙ same3 in
    let all = asked-all-at alone n _ c.args.hold _ _ _ _ _ (side c.serve_inbox.new.ring) before
    (sym a.step.node.same) b.asked in
    let out = sends-out-at alone n _ _ _ _ _ (side c.ask_all.new.ring) before (sym same2) d.sends in
    let gives = gives-at alone n network_paths _ _ _ _ (side c.send_all.new.ring) before (sym same3)
    e.gives_up in
    net-as (λ (m : NetPlan). (part_at m n given).inbox ≡ []) _ _ (sym same4)
    (inbox-empty alone before.net n _ c.args.hold all.asks _ network_paths _ _ _ _ served asked sent
    given
    a.turning.own_turn.on a.holds
    (net-as (λ (m : NetPlan). IsOnRing m asked n) _ _ a.step.node.same b.turning.own_turn.on)
    (net-as (λ (m : NetPlan). Holds m asked n) _ _ a.step.node.same b.holds)
    (net-as (λ (m : NetPlan). IsOnRing m sent n) _ _ same2 d.turning.own_turn.on)
    (net-as (λ (m : NetPlan). Holds m sent n) _ _ same2 d.holds)
    (net-as (λ (m : NetPlan). IsLegalRing m given) _ _ same3 e.step.node.stands.legal)
    a.served.empty
    all.all out gives)

pub end_turn-requires-clause-rest : goal.end_turn-requires-clause-rest
end_turn-requires-clause-rest g c =
    let alone = g.R.RingSide.alone in
    let n = c.args.node in
    let side = g.R.RingSide.side in
    let before = side c.args.ring.now in
    let d = c.in_ok-send_all.ensures in
    let e = c.in_ok-give_up_where.ensures in
    let sent = g.R.RingSide.known c.send_all.new.ring in
    let given = g.R.RingSide.known c.give_up_where.new.ring in
    let same2 = c.in_ok-fresh.ensures.step.node.same ∙ c.in_ok-serve_inbox.ensures.step.node.same in
    let same3 = d.step.node.same ∙ same2 in
    let out = sends-out-at alone n _ _ _ _ _ (side c.ask_all.new.ring) before (sym same2) d.sends in
    let gives = gives-at alone n network_paths _ _ _ _ (side c.send_all.new.ring) before (sym same3)
    e.gives_up in
    net-as (λ (m : NetPlan). IsAtRest m n given) _ _ (sym (e.step.node.same ∙ same3))
    (rest-due alone before.net n _ _ _ _ _ sent given
    (net-as (λ (m : NetPlan). IsOnRing m sent n) _ _ same2 d.turning.own_turn.on)
    (net-as (λ (m : NetPlan). Holds m sent n) _ _ same2 d.holds)
    (net-as (λ (m : NetPlan). IsOnRing m given n) _ _ same3 e.turning.own_turn.on) out gives)

pub returns-in_err-fresh-clause-step : goal.returns-in_err-fresh-clause-step
returns-in_err-fresh-clause-step g c =
    let a = c.in_ok-serve_inbox.ensures in
    host-then g.R.RingSide c.args.node a.step c.in_err-fresh.ensures.step

pub returns-in_err-send_all-clause-step : goal.returns-in_err-send_all-clause-step
returns-in_err-send_all-clause-step g c =
    let a = c.in_ok-serve_inbox.ensures in
    let b = c.in_ok-fresh.ensures in
    let ab = host-then g.R.RingSide c.args.node a.step b.step in
    host-then g.R.RingSide c.args.node ab c.in_err-send_all.ensures.step

pub returns-in_err-give_up_where-clause-step : goal.returns-in_err-give_up_where-clause-step
returns-in_err-give_up_where-clause-step g c =
    let a = c.in_ok-serve_inbox.ensures in
    let b = c.in_ok-fresh.ensures in
    let d = c.in_ok-send_all.ensures in
    let ab = host-then g.R.RingSide c.args.node a.step b.step in
    let abd = host-then g.R.RingSide c.args.node ab d.step in
    host-then g.R.RingSide c.args.node abd c.in_err-give_up_where.ensures.step

pub returns-clause-step : goal.returns-clause-step
returns-clause-step g c =
    let a = c.in_ok-serve_inbox.ensures in
    let b = c.in_ok-fresh.ensures in
    let d = c.in_ok-send_all.ensures in
    let e = c.in_ok-give_up_where.ensures in
    let ab = host-then g.R.RingSide c.args.node a.step b.step in
    let abd = host-then g.R.RingSide c.args.node ab d.step in
    let abde = host-then g.R.RingSide c.args.node abd e.step in
    host-then g.R.RingSide c.args.node abde c.end_turn.ensures.step
