use Rattle.std.proofs.Common.{[], ◌∷◌, refl}
use Rattle.bridge_relay.specs.declared.entry.BridgeEntry.TheVariants.{Forward}
use Rattle.bridge_relay.specs.Bridge.{IsForwarded}
use Rattle.bridge_relay.specs.Laws.{is_by}
use Rattle.bridge_relay.specs.Legal.{due_forward}
use Rattle.ring_core.specs.Words.{frame_route}
use Rattle.ring_core.specs.declared.entry.RingEntry.TheVariants.{Post}
use Rattle.tied_lists.proofs.Growth.{grew-one}
use Rattle.comm_port.proofs.Allowed.{post-short}
use Rattle.comm_port.proofs.Made.{kept-none}
use Rattle.comm_port.proofs.RingTurns.{mine}
use Rattle.comm_port.proofs.Steps.{ring-called}
use Rattle.bridge_port.proofs.EndSteps.{bridge-asked, bridge-called, end-bridge}
use Rattle.bridge_port.proofs.EndTurns.{turning-across}
use Rattle.bridge_port.proofs.Lists.{mine-one}
use Rattle.bridge_port.proofs.Posted.{fewer-paths, none-left, none-of, went-none}
use Rattle.bridge_port.proofs.Relayed.{call-posted, forwarded-one, sent-on}
use Rattle.bridge_port.proofs.Turning.{turning-called}
use Rattle.bridge_port.proofs.calling.forward_next.Goals as goal

pub post-requires-clause-from : goal.post-requires-clause-from
post-requires-clause-from g c =
    let o = c.in_ok-request.ensures in
    (sent-on g.B.BridgeSide.alone c.args.side _ _ _ _ _ c.in_ok-request.field-0 c.in-Some.request
    c.in-Some.is o.went o.legal c.requires.turning).from

pub post-requires-clause-next : goal.post-requires-clause-next
post-requires-clause-next g c =
    let o = c.in_ok-request.ensures in
    (sent-on g.B.BridgeSide.alone c.args.side _ _ _ _ _ c.in_ok-request.field-0 c.in-Some.request
    c.in-Some.is o.went o.legal c.requires.turning).may.next

pub of-requires : goal.of-requires
of-requires g c =
    let o = c.in_ok-request.ensures in
    let f = c.in-Some.request in
    let e = c.in-Err.ensures in
    let sent = sent-on g.B.BridgeSide.alone c.args.side _ _ _ _ _ c.in_ok-request.field-0 f
    c.in-Some.is o.went o.legal c.requires.turning in
    post-short g.R.RingSide.alone c.args.side f _ _ _ c.in-Err.why e.legal e.went.list
    c.requires.turning.own_turn sent.may.free e.refused

pub returns-in-Ok-clause-turning : goal.returns-in-Ok-clause-turning
returns-in-Ok-clause-turning g c =
    let o = c.in_ok-request.ensures in
    let p = c.in-Ok.ensures in
    let n = c.args.side in
    let f = c.in-Some.request in
    let sent = sent-on g.B.BridgeSide.alone n _ _ _ _ _ c.in_ok-request.field-0 f c.in-Some.is
    o.went o.legal c.requires.turning in
    let call = call-posted g.R.RingSide.alone n f _ _ _ c.requires.turning.own_turn p.legal
    p.went.list in
    turning-called g.B.BridgeSide.alone g.R.RingSide.alone n sent.may.old f _ _ _ _ _ _ _ _ o.same
    p.same sent.may.kind sent.may.path o.legal sent.went p.legal call.grew call.kept
    c.requires.turning

pub returns-in-Ok-clause-kept : goal.returns-in-Ok-clause-kept
returns-in-Ok-clause-kept g c =
    let p = c.in-Ok.ensures in
    (call-posted g.R.RingSide.alone c.args.side c.in-Some.request
    (g.R.RingSide.side c.args.ring.now) _ _ c.requires.turning.own_turn p.legal p.went.list).kept

pub returns-in-Ok-clause-forwarded : goal.returns-in-Ok-clause-forwarded
returns-in-Ok-clause-forwarded g c =
    let o = c.in_ok-request.ensures in
    let p = c.in-Ok.ensures in
    let n = c.args.side in
    let f = c.in-Some.request in
    let sent = sent-on g.B.BridgeSide.alone n _ _ _ _ _ c.in_ok-request.field-0 f c.in-Some.is
    o.went o.legal c.requires.turning in
    let call = call-posted g.R.RingSide.alone n f (g.R.RingSide.side c.args.ring.now) _ _
    c.requires.turning.own_turn p.legal p.went.list in
    record {
      is_path = sent.may.path;
      request = f;
      kind = sent.may.kind;
      path_is = refl;
      part = forwarded-one g.B.BridgeSide.alone g.R.RingSide.alone n sent.may.old f _ _ _ _
          sent.may.kind sent.went call.grew;
      node_is = call.node_is;
      fewer = fewer-paths g.B.BridgeSide.alone _ n _ sent.may.old f.id (frame_route f) f.pdu _
          c.requires.turning.is_open.end o.legal sent.may.path sent.may.none sent.went;
    }

pub returns-in-Ok-clause-step : goal.returns-in-Ok-clause-step
returns-in-Ok-clause-step g c =
    let o = c.in_ok-request.ensures in
    let p = c.in-Ok.ensures in
    let n = c.args.side in
    let f = c.in-Some.request in
    let sent = sent-on g.B.BridgeSide.alone n _ _ _ _ _ c.in_ok-request.field-0 f c.in-Some.is
    o.went o.legal c.requires.turning in
    record {
      station = bridge-called g.B.BridgeSide n
          (Forward n sent.may.old f.id (frame_route f) f.pdu ∷ []) o.same o.legal sent.went
          (mine-one n (Forward n sent.may.old f.id (frame_route f) f.pdu) refl);
      node = ring-called g.R.RingSide n p.same p.legal p.went (mine n (Post n f) refl);
    }

pub returns-in-Err-clause-step : goal.returns-in-Err-clause-step
returns-in-Err-clause-step g c =
    let o = c.in_ok-request.ensures in
    let e = c.in-Err.ensures in
    let n = c.args.side in
    let f = c.in-Some.request in
    let sent = sent-on g.B.BridgeSide.alone n _ _ _ _ _ c.in_ok-request.field-0 f c.in-Some.is
    o.went o.legal c.requires.turning in
    record {
      station = bridge-called g.B.BridgeSide n
          (Forward n sent.may.old f.id (frame_route f) f.pdu ∷ []) o.same o.legal sent.went
          (mine-one n (Forward n sent.may.old f.id (frame_route f) f.pdu) refl);
      node = ring-called g.R.RingSide n e.same e.legal e.went refl;
    }

pub returns-in_default-clause-turning : goal.returns-in_default-clause-turning
returns-in_default-clause-turning g c =
    let o = c.in_ok-request.ensures in
    let n = c.args.side in
    let plan = (g.B.BridgeSide.bridge c.args.bridge.now).plan in
    let none = none-of g.B.BridgeSide.alone n (λ past. due_forward plan past n)
    (λ past f. IsForwarded plan past n f) _ _ _ c.in_default.is o.went in
    turning-across g.B.BridgeSide.alone n _ _ _ _ _ _ o.same o.legal
    (went-none g.B.BridgeSide.alone n (λ past. due_forward plan past n)
    (λ past f. IsForwarded plan past n f) _ _ _ o.went none) c.requires.turning

pub returns-in_default-clause-kept : goal.returns-in_default-clause-kept
returns-in_default-clause-kept g c =
    kept-none (g.R.RingSide.side c.args.ring.now) _ c.args.side c.requires.turning.own_turn

pub returns-in_default-clause-forwarded : goal.returns-in_default-clause-forwarded
returns-in_default-clause-forwarded g c =
    let o = c.in_ok-request.ensures in
    let n = c.args.side in
    let plan = (g.B.BridgeSide.bridge c.args.bridge.now).plan in
    let none = none-of g.B.BridgeSide.alone n (λ past. due_forward plan past n)
    (λ past f. IsForwarded plan past n f) _ _ _ c.in_default.is o.went in
    record {
      none_due = none-left g.B.BridgeSide.alone n (λ past. due_forward plan past n)
          (λ past f. IsForwarded plan past n f) _ _ _ o.went none;
      noted = grew-one g.B.BridgeSide.alone (is_by n) _ [] _ refl
          (went-none g.B.BridgeSide.alone n (λ past. due_forward plan past n)
          (λ past f. IsForwarded plan past n f) _ _ _ o.went none);
      same = refl;
    }

pub returns-in_default-clause-step : goal.returns-in_default-clause-step
returns-in_default-clause-step g c =
    let o = c.in_ok-request.ensures in
    let n = c.args.side in
    let plan = (g.B.BridgeSide.bridge c.args.bridge.now).plan in
    let none = none-of g.B.BridgeSide.alone n (λ past. due_forward plan past n)
    (λ past f. IsForwarded plan past n f) _ _ _ c.in_default.is o.went in
    end-bridge g.B.BridgeSide g.R.RingSide n c.args.ring.now
    c.requires.turning.own_turn.on.legal
    (bridge-asked g.B.BridgeSide n o.same o.legal
    (went-none g.B.BridgeSide.alone n (λ past. due_forward plan past n)
    (λ past f. IsForwarded plan past n f) _ _ _ o.went none))

pub returns-in_err-request-clause-step : goal.returns-in_err-request-clause-step
returns-in_err-request-clause-step g c =
    let e = c.in_err-request.ensures in
    end-bridge g.B.BridgeSide g.R.RingSide c.args.side c.args.ring.now
    c.requires.turning.own_turn.on.legal
    (bridge-asked g.B.BridgeSide c.args.side e.same e.legal e.went)
