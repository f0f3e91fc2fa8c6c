use Rattle.comm_port.proofs.HostAsks.{sent-some, turning-sent}
use Rattle.comm_port.proofs.HostTurning.{turning-side}
use Rattle.comm_port.proofs.HostAsks.{sent-none}
use Rattle.std.proofs.Common.{sym}
use Rattle.comm_port.proofs.HostGives.{gives-at}
use Rattle.plant_types.specs.declared.net.NetPlan.{NetPlan}
use Rattle.tied_lists.specs.Waits.{IsOnRing}
use Rattle.comm_port.proofs.Parts.{net-as}
use Rattle.comm_port.proofs.HostSends.{new-still, sends-none, sent-step}
use Rattle.comm_port.proofs.RingTurns.{on-grew}
use Rattle.comm_port.proofs.Steps.{host-ring, host-then}
use Rattle.comm_port.proofs.host_worker.send_one.Goals as goal

pub give_up_where-requires : goal.give_up_where-requires
give_up_where-requires g c =
    let o = c.in_ok-heard.ensures in
    let sent = sent-some g.R.RingSide.alone _ c.args.node c.in-Some.heard _ _ _ c.in-Some.is o.sent
    in
    record {
      turning = turning-side c.args.node _ _ _ _ o.step.same
          (turning-sent g.R.RingSide.alone c.args.node c.in-Some.heard _ _ _
          _ c.requires.turning sent o.step.stands.legal);
    }

pub returns-in_default-clause-sends : goal.returns-in_default-clause-sends
returns-in_default-clause-sends g c =
    let o = c.in_ok-heard.ensures in
    let all = sent-none g.R.RingSide.alone _ c.args.node _ _ _ c.in_default.is o.sent in
    sends-none g.R.RingSide.alone _ c.args.node _ _ _ _ all.grew

pub returns-clause-sends : goal.returns-clause-sends
returns-clause-sends g c =
    let o = c.in_ok-heard.ensures in
    let w = c.in_ok-give_up_where.ensures in
    let n = c.args.node in
    let before = g.R.RingSide.side c.args.ring.now in
    let sent = sent-some g.R.RingSide.alone before.net n c.in-Some.heard _ _ _ c.in-Some.is o.sent
    in
    (sent-step g.R.RingSide.alone before.net n c.in-Some.heard c.args.fresh _ _ _ _ _ _
    c.requires.wait
    (on-grew g.R.RingSide.alone before.net n _ _ _ c.requires.turning.own_turn.on
    o.step.stands.legal (tt, tt) sent.grew)
    (net-as (λ (m : NetPlan). IsOnRing m (g.R.RingSide.known c.give_up_where.new.ring) n) _ _
    o.step.same w.turning.own_turn.on) c.requires.holds
    c.requires.new_calls sent.grew c.may_have_failed.ensures
    (gives-at g.R.RingSide.alone n _ _ _ _ _ (g.R.RingSide.side c.send_next.new.ring) before
    (sym o.step.same) w.gives_up)).sends

pub returns-clause-new_calls : goal.returns-clause-new_calls
returns-clause-new_calls g c =
    let o = c.in_ok-heard.ensures in
    let w = c.in_ok-give_up_where.ensures in
    let n = c.args.node in
    let before = g.R.RingSide.side c.args.ring.now in
    let sent = sent-some g.R.RingSide.alone before.net n c.in-Some.heard _ _ _ c.in-Some.is o.sent
    in
    (sent-step g.R.RingSide.alone before.net n c.in-Some.heard c.args.fresh _ _ _ _ _ _
    c.requires.wait
    (on-grew g.R.RingSide.alone before.net n _ _ _ c.requires.turning.own_turn.on
    o.step.stands.legal (tt, tt) sent.grew)
    (net-as (λ (m : NetPlan). IsOnRing m (g.R.RingSide.known c.give_up_where.new.ring) n) _ _
    o.step.same w.turning.own_turn.on) c.requires.holds
    c.requires.new_calls sent.grew c.may_have_failed.ensures
    (gives-at g.R.RingSide.alone n _ _ _ _ _ (g.R.RingSide.side c.send_next.new.ring) before
    (sym o.step.same) w.gives_up)).new_calls

pub returns-in_default-clause-new_calls : goal.returns-in_default-clause-new_calls
returns-in_default-clause-new_calls g c =
    let o = c.in_ok-heard.ensures in
    let n = c.args.node in
    let before = g.R.RingSide.side c.args.ring.now in
    let all = sent-none g.R.RingSide.alone before.net n _ _ _ c.in_default.is o.sent in
    new-still g.R.RingSide.alone before.net n _ _ _
    (on-grew g.R.RingSide.alone before.net n _ _ _ c.requires.turning.own_turn.on
    o.step.stands.legal tt all.grew)
    c.requires.turning.own_turn.free all.grew c.requires.new_calls

pub returns-in_default-clause-empty : goal.returns-in_default-clause-empty
returns-in_default-clause-empty g c =
    let o = c.in_ok-heard.ensures in
    λ e. (sent-none g.R.RingSide.alone _ c.args.node _ _ _ c.in_default.is o.sent).empty

pub returns-in_err-heard-clause-step : goal.returns-in_err-heard-clause-step
returns-in_err-heard-clause-step g c =
    host-ring g.R.RingSide c.args.node c.args.host.now c.requires.turning.legal
    c.in_err-heard.ensures.step

pub returns-in_default-clause-step : goal.returns-in_default-clause-step
returns-in_default-clause-step g c =
    host-ring g.R.RingSide c.args.node c.args.host.now c.requires.turning.legal
    c.in_ok-heard.ensures.step

pub returns-in_err-give_up_where-clause-step : goal.returns-in_err-give_up_where-clause-step
returns-in_err-give_up_where-clause-step g c =
    host-then g.R.RingSide c.args.node
    (host-ring g.R.RingSide c.args.node c.args.host.now c.requires.turning.legal
    c.in_ok-heard.ensures.step)
    c.in_err-give_up_where.ensures.step

pub returns-clause-step : goal.returns-clause-step
returns-clause-step g c =
    host-then g.R.RingSide c.args.node
    (host-ring g.R.RingSide c.args.node c.args.host.now c.requires.turning.legal
    c.in_ok-heard.ensures.step)
    c.in_ok-give_up_where.ensures.step
