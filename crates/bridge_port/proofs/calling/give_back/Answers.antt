use Rattle.std.proofs.Common.{◌≡◌, true, false, [], ◌∷◌, refl}
use Rattle.bridge_relay.specs.declared.entry.BridgeEntry.TheVariants.{Back}
use Rattle.bridge_relay.specs.Bridge.{IsGivenBack}
use Rattle.bridge_relay.specs.Legal.{due_back}
use Rattle.comm_port.specs.Replies.{reply_frame}
use Rattle.comm_port.proofs.Made.{kept-none}
use Rattle.bridge_port.specs.EndParts.{IsBackEntry}
use Rattle.bridge_port.proofs.EndSteps.{bridge-asked, bridge-called, end-bridge}
use Rattle.bridge_port.proofs.EndTurns.{turning-across}
use Rattle.bridge_port.proofs.Lists.{mine-one}
use Rattle.bridge_port.proofs.Posted.{fewer-backs, none-left, none-of, posted-none, posted-one}
use Rattle.bridge_port.proofs.Posted.{went-none}
use Rattle.bridge_port.proofs.Relayed.{back-other, gave-back}
use Rattle.bridge_port.proofs.Turning.{turning-backed}
use Rattle.bridge_port.proofs.calling.give_back.Goals as goal

pub post_reply-requires-clause-other : goal.post_reply-requires-clause-other
post_reply-requires-clause-other g c =
    let o = c.in_ok-reply.ensures in
    let n = c.args.side in
    back-other g.B.BridgeSide.alone n _ _ _ _ _ c.in-Some.reply
    (gave-back g.B.BridgeSide.alone n _ _ _ _ _ c.in_ok-reply.field-0 c.in-Some.reply c.in-Some.is
    o.went o.legal c.requires.turning) c.requires.turning

pub returns-clause-turning : goal.returns-clause-turning
returns-clause-turning g c =
    let o = c.in_ok-reply.ensures in
    let p = c.in_ok-post_reply.ensures in
    let n = c.args.side in
    let f = c.in-Some.reply in
    let gave = gave-back g.B.BridgeSide.alone n _ _ _ _ _ c.in_ok-reply.field-0 f c.in-Some.is
    o.went o.legal c.requires.turning in
    turning-backed g.B.BridgeSide.alone g.R.RingSide.alone n f.id f.pdu _ _ _ _ _ _ _ _ o.same
    p.step.same o.legal gave.went gave.accepted p.step.stands.legal p.grew p.kept
    c.requires.turning

pub returns-clause-gave : goal.returns-clause-gave
returns-clause-gave g c =
    let o = c.in_ok-reply.ensures in
    let p = c.in_ok-post_reply.ensures in
    let n = c.args.side in
    let f = c.in-Some.reply in
    let gave = gave-back g.B.BridgeSide.alone n _ _ _ _ _ c.in_ok-reply.field-0 f c.in-Some.is
    o.went o.legal c.requires.turning in
    record {
      part = posted-one g.B.BridgeSide.alone g.R.RingSide.alone n IsBackEntry (Back n f.id f.pdu)
          (reply_frame f.id f.pdu) _ _ _ _ tt refl refl gave.went p.grew;
      less = λ is. fewer-backs g.B.BridgeSide.alone _ n _ f.id f.pdu _
          c.requires.turning.is_open.end o.legal gave.went;
      none_due = λ is. absurd (let no' : true ≡ false = is in cc);
    }

pub returns-in_default-clause-turning : goal.returns-in_default-clause-turning
returns-in_default-clause-turning g c =
    let o = c.in_ok-reply.ensures in
    let n = c.args.side in
    let plan = (g.B.BridgeSide.bridge c.args.bridge.now).plan in
    let none = none-of g.B.BridgeSide.alone n (λ past. due_back plan past n)
    (λ past f. IsGivenBack plan past n f) _ _ _ c.in_default.is o.went in
    turning-across g.B.BridgeSide.alone n _ _ _ _ _ _ o.same o.legal
    (went-none g.B.BridgeSide.alone n (λ past. due_back plan past n)
    (λ past f. IsGivenBack plan past n f) _ _ _ o.went none) c.requires.turning

pub returns-in_default-clause-kept : goal.returns-in_default-clause-kept
returns-in_default-clause-kept g c =
    kept-none (g.R.RingSide.side c.args.ring.now) _ c.args.side c.requires.turning.own_turn

pub returns-in_default-clause-gave : goal.returns-in_default-clause-gave
returns-in_default-clause-gave g c =
    let o = c.in_ok-reply.ensures in
    let n = c.args.side in
    let plan = (g.B.BridgeSide.bridge c.args.bridge.now).plan in
    let none = none-of g.B.BridgeSide.alone n (λ past. due_back plan past n)
    (λ past f. IsGivenBack plan past n f) _ _ _ c.in_default.is o.went in
    record {
      part = posted-none g.B.BridgeSide.alone g.R.RingSide.alone n IsBackEntry _ _ _
          (went-none g.B.BridgeSide.alone n (λ past. due_back plan past n)
          (λ past f. IsGivenBack plan past n f) _ _ _ o.went none);
      less = λ is. absurd (let no' : false ≡ true = is in cc);
      none_due = λ is. none-left g.B.BridgeSide.alone n (λ past. due_back plan past n)
          (λ past f. IsGivenBack plan past n f) _ _ _ o.went none;
    }

pub returns-in_default-clause-step : goal.returns-in_default-clause-step
returns-in_default-clause-step g c =
    let o = c.in_ok-reply.ensures in
    let n = c.args.side in
    let plan = (g.B.BridgeSide.bridge c.args.bridge.now).plan in
    let none = none-of g.B.BridgeSide.alone n (λ past. due_back plan past n)
    (λ past f. IsGivenBack plan past n f) _ _ _ c.in_default.is o.went in
    end-bridge g.B.BridgeSide g.R.RingSide n c.args.ring.now
    c.requires.turning.own_turn.on.legal
    (bridge-asked g.B.BridgeSide n o.same o.legal
    (went-none g.B.BridgeSide.alone n (λ past. due_back plan past n)
    (λ past f. IsGivenBack plan past n f) _ _ _ o.went none))

pub returns-in_err-reply-clause-step : goal.returns-in_err-reply-clause-step
returns-in_err-reply-clause-step g c =
    let e = c.in_err-reply.ensures in
    end-bridge g.B.BridgeSide g.R.RingSide c.args.side c.args.ring.now
    c.requires.turning.own_turn.on.legal
    (bridge-asked g.B.BridgeSide c.args.side e.same e.legal e.went)

pub returns-in_err-post_reply-clause-step : goal.returns-in_err-post_reply-clause-step
returns-in_err-post_reply-clause-step g c =
    let o = c.in_ok-reply.ensures in
    let n = c.args.side in
    let f = c.in-Some.reply in
    let gave = gave-back g.B.BridgeSide.alone n _ _ _ _ _ c.in_ok-reply.field-0 f c.in-Some.is
    o.went o.legal c.requires.turning in
    record {
      station = bridge-called g.B.BridgeSide n (Back n f.id f.pdu ∷ []) o.same o.legal gave.went
          (mine-one n (Back n f.id f.pdu) refl);
      node = c.in_err-post_reply.ensures.step;
    }

pub returns-clause-step : goal.returns-clause-step
returns-clause-step g c =
    let o = c.in_ok-reply.ensures in
    let n = c.args.side in
    let f = c.in-Some.reply in
    let gave = gave-back g.B.BridgeSide.alone n _ _ _ _ _ c.in_ok-reply.field-0 f c.in-Some.is
    o.went o.legal c.requires.turning in
    record {
      station = bridge-called g.B.BridgeSide n (Back n f.id f.pdu ∷ []) o.same o.legal gave.went
          (mine-one n (Back n f.id f.pdu) refl);
      node = c.in_ok-post_reply.ensures.step;
    }
