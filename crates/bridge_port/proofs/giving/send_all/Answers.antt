use Rattle.std.proofs.Common.{refl, sym, ◌∙◌, rules}
use Rattle.plant_types.specs.declared.net.NetPlan.{NetPlan}
use Rattle.bridge_relay.specs.Laws.{is_by}
use Rattle.tied_lists.specs.Waits.{Holds, IsOnRing}
use Rattle.comm_port.specs.Giving.{GivesWhere}
use Rattle.comm_port.specs.Sending.{AllSent, SentNext}
use Rattle.comm_port.proofs.Given.{holds-at}
use Rattle.comm_port.proofs.HostAsks.{sent-none, sent-some}
use Rattle.comm_port.proofs.Made.{kept-none}
use Rattle.comm_port.proofs.Parts.{each-both, each-none, net-as, part-none}
use Rattle.comm_port.proofs.RingTurns.{kept-both, kept-same}
use Rattle.comm_port.proofs.SendsAll.{given-each, has-sent, may-again, may-go-on, send-each}
use Rattle.comm_port.proofs.Served.{holds-kept}
use Rattle.bridge_port.proofs.EndSteps.{end-rest, end-ring, end-then}
use Rattle.bridge_port.proofs.EndTurns.{turning-sides}
use Rattle.bridge_port.proofs.SendsOut.{Finished, finished-more, given-part, send-part, sent-all}
use Rattle.bridge_port.proofs.SendsOut.{turning-all, turning-sent}
use Rattle.bridge_port.proofs.giving.send_all.Goals as goal

pub loop-heard-init : goal.loop-heard-init
loop-heard-init g c =
    let rs = g.R.RingSide in
    record {
      turning = c.requires.turning;
      holds = c.requires.holds;
      kept = kept-none (rs.side c.args.ring.now) _ c.args.side c.requires.turning.own_turn;
      wait = c.requires.wait;
      may = c.requires.may;
      finished = part-none g.B.BridgeSide.alone rs.alone (is_by c.args.side) c.args.side
          (Finished c.args.side) _ _ refl;
      each = each-none c.args.side _ _;
      step = end-rest g.B.BridgeSide rs c.args.side c.args.bridge.now c.args.ring.now
          c.requires.turning.legal c.requires.turning.own_turn.on.legal;
    }

pub give_up_where-requires : goal.give_up_where-requires
give_up_where-requires g c =
    let rs = g.R.RingSide in
    let o = c.in_ok-heard.ensures in
    let n = c.args.side in
    let sent = sent-some rs.alone _ n c.in-Some.heard _ _ _ c.in-Some.is o.sent in
    record {
      turning = turning-sides n _ _ _ _ _ _ refl o.step.same
          (turning-sent rs.alone n c.in-Some.heard _ _ _ _ _ o.step.stands.legal sent
          c.loop-heard.invariant.turning);
    }

pub loop-heard-preserved-then-eq : goal.loop-heard-preserved-then-eq
loop-heard-preserved-then-eq g c =
    let bs = g.B.BridgeSide in
    let rs = g.R.RingSide in
    let o = c.in_ok-heard.ensures in
    let n = c.args.side in
    let i = c.loop-heard.invariant in
    let net = (rs.side c.args.ring.now).net in
    let sent = sent-some rs.alone _ n c.in-Some.heard _ _ _ c.in-Some.is o.sent in
    let sent-now = net-as (λ (m : NetPlan). SentNext rs.alone m n c.in-Some.heard
    (rs.known c.loop-heard.ring) (rs.known c.send_next.new.ring)) _ _ i.step.node.same sent in
    record {
      turning = turning-sides n _ _ _ _ _ _ refl o.step.same
          (turning-sent rs.alone n c.in-Some.heard _ _ _ _ _ o.step.stands.legal sent i.turning);
      holds = holds-at _ _ _ n o.step.same (sent.kept.holds i.holds);
      kept = kept-both net n _ _ _ i.kept (kept-same _ _ n _ _ (sym i.step.node.same) sent.kept);
      wait = i.wait;
      may = may-go-on rs.alone net n _ c.in-Some.heard _ _ (search rules) sent-now i.may;
      finished = finished-more bs.alone rs.alone n _ _ _ _ _ _ i.finished
          (send-part bs.alone rs.alone n c.in-Some.heard _ _ _ sent.grew);
      each = each-both n _ _ _ _ i.each
          (send-each rs.alone net n _ c.in-Some.heard _ _ sent-now i.may);
      step = end-then bs rs n i.step
          (end-ring bs rs n c.loop-heard.bridge i.turning.legal o.step);
    }

pub loop-heard-preserved : goal.loop-heard-preserved
loop-heard-preserved g c =
    let bs = g.B.BridgeSide in
    let rs = g.R.RingSide in
    let o = c.in_ok-heard.ensures in
    let n = c.args.side in
    let i = c.loop-heard.invariant in
    let e = c.in_ok-give_up_where.ensures in
    let net = (rs.side c.args.ring.now).net in
    let sent = sent-some rs.alone _ n c.in-Some.heard _ _ _ c.in-Some.is o.sent in
    let sent-now = net-as (λ (m : NetPlan). SentNext rs.alone m n c.in-Some.heard
    (rs.known c.loop-heard.ring) (rs.known c.send_next.new.ring)) _ _ i.step.node.same sent in
    let on = net-as (λ (m : NetPlan). IsOnRing m (rs.known c.loop-heard.ring) n) _ _
    i.step.node.same i.turning.own_turn.on in
    let after-it = has-sent rs.alone net n _ c.in-Some.heard _ _ i.wait on sent-now i.may in
    let given = net-as (λ (m : NetPlan). GivesWhere m n c.args.posted.now 5
    (rs.known c.send_next.new.ring) (rs.known c.give_up_where.new.ring)) _ _
    (o.step.same ∙ i.step.node.same) e.part in
    let here = (sent-now.kept.holds
    (net-as (λ (m : NetPlan). Holds m (rs.known c.loop-heard.ring) n) _ _ i.step.node.same
    i.holds)).here in
    let first = kept-both net n _ _ _ i.kept
    (kept-same _ _ n _ _ (sym i.step.node.same) sent.kept) in
    record {
      turning = e.turning;
      holds = holds-kept (rs.side c.loop-heard.ring) _ _ n _ _ o.step.same e.step.node.same e.kept
          (sent.kept.holds i.holds);
      kept = kept-both net n _ _ _ first
          (kept-same _ _ n _ _ (sym (o.step.same ∙ i.step.node.same)) e.kept);
      wait = i.wait;
      may = may-again net n _ _ _ i.wait after-it given;
      finished = finished-more bs.alone rs.alone n _ _ _ _ _ _ i.finished
          (finished-more bs.alone rs.alone n _ _ _ _ _ _
          (send-part bs.alone rs.alone n c.in-Some.heard _ _ _ sent.grew)
          (given-part bs.alone rs.alone n _ _ _ _ _ e.given));
      each = each-both n _ _ _ _ i.each
          (each-both n _ _ _ _ (send-each rs.alone net n _ c.in-Some.heard _ _ sent-now i.may)
          (given-each net n _ _ _ here after-it given));
      step = end-then bs rs n i.step
          (end-then bs rs n (end-ring bs rs n c.loop-heard.bridge i.turning.legal o.step) e.step);
    }

pub returns-clause-turning : goal.returns-clause-turning
returns-clause-turning g c =
    let rs = g.R.RingSide in
    let o = c.in_ok-heard.ensures in
    let n = c.args.side in
    let all = sent-none rs.alone _ n _ _ _ c.in_default.is o.sent in
    turning-sides n _ _ _ _ _ _ refl o.step.same
    (turning-all rs.alone n _ _ _ _ _ o.step.stands.legal all c.loop-heard.invariant.turning)

pub returns-clause-kept : goal.returns-clause-kept
returns-clause-kept g c =
    let rs = g.R.RingSide in
    let o = c.in_ok-heard.ensures in
    let i = c.loop-heard.invariant in
    let n = c.args.side in
    let all = sent-none rs.alone _ n _ _ _ c.in_default.is o.sent in
    kept-both (rs.side c.args.ring.now).net n _ _ _ i.kept
    (kept-same _ _ n _ _ (sym i.step.node.same) all.kept)

pub returns-clause-sent : goal.returns-clause-sent
returns-clause-sent g c =
    let rs = g.R.RingSide in
    let o = c.in_ok-heard.ensures in
    let i = c.loop-heard.invariant in
    let n = c.args.side in
    let all = sent-none rs.alone _ n _ _ _ c.in_default.is o.sent in
    sent-all g.B.BridgeSide.alone rs.alone (rs.side c.args.ring.now).net n _ _ _ _ _ _
    (net-as (λ (m : NetPlan). AllSent rs.alone m n (rs.known c.loop-heard.ring)
    (rs.known c.send_next.new.ring)) _ _ i.step.node.same all) i.may i.finished i.each

pub returns-in_err-heard-clause-step : goal.returns-in_err-heard-clause-step
returns-in_err-heard-clause-step g c =
    let i = c.loop-heard.invariant in
    end-then g.B.BridgeSide g.R.RingSide c.args.side i.step
    (end-ring g.B.BridgeSide g.R.RingSide c.args.side c.loop-heard.bridge i.turning.legal
    c.in_err-heard.ensures.step)

pub returns-in_err-give_up_where-clause-step : goal.returns-in_err-give_up_where-clause-step
returns-in_err-give_up_where-clause-step g c =
    let i = c.loop-heard.invariant in
    end-then g.B.BridgeSide g.R.RingSide c.args.side i.step
    (end-then g.B.BridgeSide g.R.RingSide c.args.side
    (end-ring g.B.BridgeSide g.R.RingSide c.args.side c.loop-heard.bridge i.turning.legal
    c.in_ok-heard.ensures.step)
    c.in_err-give_up_where.ensures.step)

pub returns-clause-step : goal.returns-clause-step
returns-clause-step g c =
    let i = c.loop-heard.invariant in
    end-then g.B.BridgeSide g.R.RingSide c.args.side i.step
    (end-ring g.B.BridgeSide g.R.RingSide c.args.side c.loop-heard.bridge i.turning.legal
    c.in_ok-heard.ensures.step)
