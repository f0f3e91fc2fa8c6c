use Rattle.std.proofs.Common.{Some, None, refl, [], ◌∷◌}
use Rattle.tied_lists.proofs.Growth.{grew-one}
use Rattle.tied_lists.specs.Own.{is_of}
use Rattle.controller_core.specs.declared.entry.Entry.TheVariants.{Peer, Off}
use Rattle.ring_core.specs.declared.entry.RingEntry.TheVariants.{Post}
use Rattle.joint_history.specs.Reading.{is_ours}
use Rattle.comm_port.specs.Replies.{reply_frame}
use Rattle.comm_port.proofs.Parts.{grew-none}
use Rattle.comm_port.proofs.Served.{answer-lead, off-lead, peer-ours, went-reply}
use Rattle.comm_port.proofs.Serves.{request-due}
use Rattle.comm_port.proofs.Steps.{both-ram, ram-called}
use Rattle.comm_port.proofs.serving.answer_request.Goals as goal

pub returns-in_err-reply-clause-step : goal.returns-in_err-reply-clause-step
returns-in_err-reply-clause-step g c =
    let p = c.in_err-reply.ensures in
    both-ram g.M.RamSide g.R.RingSide c.args.node c.args.ring.now
    c.requires.taking.own_turn.on.legal (ram-called g.M.RamSide p.same p.legal p.went refl)

pub returns-in_ok-post_reply-clause-turning : goal.returns-in_ok-post_reply-clause-turning
returns-in_ok-post_reply-clause-turning g c =
    let p = c.in_ok-reply.ensures in
    let o = c.in_ok-post_reply.ensures in
    let f = c.args.request.now in
    answer-lead g.M.RamSide.alone g.R.RingSide.alone c.args.node f
    c.in-Some.reply _ _ _ _ _ _ _ _ c.args.waiting.now
    p.same o.step.same c.requires.kind c.requires.plain o.step.stands.legal o.kept
    (went-reply g.M.RamSide.alone f.id f.pdu _ (Some c.in-Some.reply) _ _ c.in-Some.is p.went.list)
    o.grew c.requires.taking

pub returns-in_ok-post_reply-clause-served : goal.returns-in_ok-post_reply-clause-served
returns-in_ok-post_reply-clause-served g c =
    let p = c.in_ok-reply.ensures in
    let f = c.args.request.now in
    let reply = c.in-Some.reply in
    record {
      noted = Peer f.id f.pdu reply ∷ [];
      done = Post c.args.node (reply_frame f.id reply) ∷ [];
      due = request-due c.args.node f (Some reply) c.requires.kind c.requires.plain;
      station = grew-one g.M.RamSide.alone is_ours _ (Peer f.id f.pdu reply ∷ []) _ refl
          (went-reply g.M.RamSide.alone f.id f.pdu _ (Some reply) _ _ c.in-Some.is p.went.list);
      node = c.in_ok-post_reply.ensures.grew;
    }

pub returns-in_ok-post_reply-clause-step : goal.returns-in_ok-post_reply-clause-step
returns-in_ok-post_reply-clause-step g c =
    let p = c.in_ok-reply.ensures in
    let f = c.args.request.now in
    record {
      station = ram-called g.M.RamSide p.same p.legal p.went
          (peer-ours f.id f.pdu c.in_ok-reply.field-0);
      node = c.in_ok-post_reply.ensures.step;
    }

pub returns-in_err-post_reply-clause-step : goal.returns-in_err-post_reply-clause-step
returns-in_err-post_reply-clause-step g c =
    let p = c.in_ok-reply.ensures in
    let f = c.args.request.now in
    record {
      station = ram-called g.M.RamSide p.same p.legal p.went
          (peer-ours f.id f.pdu c.in_ok-reply.field-0);
      node = c.in_err-post_reply.ensures.step;
    }

pub returns-in_default-clause-turning : goal.returns-in_default-clause-turning
returns-in_default-clause-turning g c =
    let p = c.in_ok-reply.ensures in
    let f = c.args.request.now in
    off-lead g.M.RamSide.alone c.args.node f _ _ _ _ _ _ c.args.waiting.now p.same
    c.requires.kind c.requires.plain
    (went-reply g.M.RamSide.alone f.id f.pdu _ None _ _ c.in_default.is p.went.list)
    c.requires.taking

pub returns-in_default-clause-served : goal.returns-in_default-clause-served
returns-in_default-clause-served g c =
    let p = c.in_ok-reply.ensures in
    let f = c.args.request.now in
    record {
      noted = Off f.id f.pdu ∷ [];
      done = [];
      due = request-due c.args.node f None c.requires.kind c.requires.plain;
      station = grew-one g.M.RamSide.alone is_ours _ (Off f.id f.pdu ∷ []) _ refl
          (went-reply g.M.RamSide.alone f.id f.pdu _ None _ _ c.in_default.is p.went.list);
      node = grew-none g.R.RingSide.alone (is_of c.args.node) (g.R.RingSide.known c.args.ring.now);
    }

pub returns-in_default-clause-step : goal.returns-in_default-clause-step
returns-in_default-clause-step g c =
    let p = c.in_ok-reply.ensures in
    let f = c.args.request.now in
    both-ram g.M.RamSide g.R.RingSide c.args.node c.args.ring.now
    c.requires.taking.own_turn.on.legal
    (ram-called g.M.RamSide p.same p.legal p.went (peer-ours f.id f.pdu c.in_ok-reply.field-0))
