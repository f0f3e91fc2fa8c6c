use Rattle.ring_core.specs.declared.entry.RingEntry.TheVariants.{Post}
use Rattle.std.proofs.Common.{refl}
use Rattle.comm_port.proofs.RingTurns.{own-moved, own-on, kept-post}
use Rattle.comm_port.proofs.replies.post_reply.Goals as goal

pub returns-clause-kept : goal.returns-clause-kept
returns-clause-kept g c =
    let o = c.in_ok-post_frame.ensures in
    let f = c.reply_frame.result in
    let e = Post c.args.node f in
    kept-post _ c.args.node _ _ f
    (own-on _ g.R.RingSide.alone c.args.node _ e _ c.requires.turn o.step.stands.legal o.went)
    (own-moved _ g.R.RingSide.alone c.args.node _ e _ refl c.requires.turn o.step.stands.legal
    o.went)
