use Rattle.std.proofs.Common.{◌≡◌, ◌⊎◌, refl, sym, ap, ◌∙◌, subst, List, ℕ, [], ◌∷◌, length}
use Rattle.ring_core.specs.declared.entry.RingEntry.{RingEntry}
use Rattle.ring_core.specs.declared.entry.RingEntry.TheVariants.{Post, Local}
use Rattle.tied_lists.specs.Own.{is_of}
use Rattle.tied_lists.specs.Items.{reply_of}
use Rattle.tied_lists.proofs.Growth.{grew-one, grew-more}
use Rattle.modbus_pdu.specs.Spelling.{reply_bytes}
use Rattle.modbus_pdu.specs.declared.reply.Reply.TheVariants as replies
use Rattle.comm_port.specs.Replies.{reply_frame}
use Rattle.comm_port.proofs.RingTurns.{own-moved, own-on, kept-local}
use Rattle.comm_port.proofs.RingTurns.{kept-both, kept-same, turn-on, mine}
use Rattle.comm_port.proofs.Statistics.{told-range}
use Rattle.comm_port.proofs.Steps.{ring-then}
use Rattle.comm_port.proofs.replies.tell_statistics.Goals as goal

pub statistics_reply-requires : goal.statistics_reply-requires
statistics_reply-requires g c =
    let o = c.in_ok-result.ensures in
    let result = c.in_ok-result.result in
    let m = own-moved _ g.R.RingSide.alone c.args.node _
    (Local c.args.node c.args.request.now.id c.operation_for-op.result
    result) _ refl c.requires.turn o.step.stands.legal o.went in
    subst (λ (l : List ℕ). (length l ≡ 0) ⊎ (length l ≡ 20)) (sym c.words_told.ensures)
    (told-range (g.R.RingSide.side c.args.ring.now).net m.past c.args.node c.operation_for-op.result
    result _ c.operation_for-op.ensures.asked m.step.1.1)

pub post_reply-requires-clause-turn : goal.post_reply-requires-clause-turn
post_reply-requires-clause-turn g c =
    let o = c.in_ok-result.ensures in
    let e = Local c.args.node c.args.request.now.id c.operation_for-op.result
    c.in_ok-result.result in
    let m = own-moved _ g.R.RingSide.alone c.args.node _ e _ refl c.requires.turn
    o.step.stands.legal o.went in
    let on = own-on _ g.R.RingSide.alone c.args.node _ e _ c.requires.turn o.step.stands.legal
    o.went in
    turn-on _ _ _ _ c.args.node o.step.same c.requires.turn o.step.stands.legal
    (kept-local _ c.args.node _ _ _ _ _ on m)

pub returns-clause-told : goal.returns-clause-told
returns-clause-told g c =
    let o = c.in_ok-result.ensures in
    let n = c.args.node in
    let id = c.args.request.now.id in
    let result = c.in_ok-result.result in
    let e : RingEntry = Local n id c.operation_for-op.result result in
    let pdu_is : c.in_ok-pdu.pdu ≡ reply_of result = c.in_ok-pdu.ensures ∙ ap
    (λ (l : List ℕ). reply_bytes (replies.Stats l)) c.words_told.ensures in
    let first = grew-one g.R.RingSide.alone (is_of n) _ (e ∷ []) _ (mine n e refl) o.went in
    record {
      op = c.operation_for-op.result;
      result = result;
      answers = c.operation_for-op.ensures.asked;
      grew = grew-more g.R.RingSide.alone (is_of n) _ _ _ (e ∷ [])
          (Post n (reply_frame id (reply_of result)) ∷ []) first
          (subst (λ (p : List ℕ). Rattle.tied_lists.specs.Own.Grew g.R.RingSide.alone (is_of n)
          (g.R.RingSide.known
          c.do_local.new.ring) (Post n (reply_frame id p) ∷ [])
          (g.R.RingSide.known c.post_reply.new.ring)) pdu_is
          c.in_ok-post_reply.ensures.grew);
    }

pub returns-clause-kept : goal.returns-clause-kept
returns-clause-kept g c =
    let o = c.in_ok-result.ensures in
    let e = Local c.args.node c.args.request.now.id c.operation_for-op.result
    c.in_ok-result.result in
    let m = own-moved _ g.R.RingSide.alone c.args.node _ e _ refl c.requires.turn
    o.step.stands.legal o.went in
    let on = own-on _ g.R.RingSide.alone c.args.node _ e _ c.requires.turn o.step.stands.legal
    o.went in
    kept-both (g.R.RingSide.side c.args.ring.now).net c.args.node _ _ _
    (kept-local _ c.args.node _ _ _ _ _ on m)
    (kept-same _ _ c.args.node _ _ (sym o.step.same) c.in_ok-post_reply.ensures.kept)

pub returns-in_err-pdu-clause-step : goal.returns-in_err-pdu-clause-step
returns-in_err-pdu-clause-step g c =
    c.in_ok-result.ensures.step

pub returns-in_err-post_reply-clause-step : goal.returns-in_err-post_reply-clause-step
returns-in_err-post_reply-clause-step g c =
    ring-then g.R.RingSide c.args.node c.in_ok-result.ensures.step c.in_err-post_reply.ensures.step

pub returns-clause-step : goal.returns-clause-step
returns-clause-step g c =
    ring-then g.R.RingSide c.args.node c.in_ok-result.ensures.step c.in_ok-post_reply.ensures.step
