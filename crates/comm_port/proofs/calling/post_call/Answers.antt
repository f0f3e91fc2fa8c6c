use Rattle.comm_port.specs.Giving.{part_at}
use Rattle.comm_port.proofs.Allowed.{free-path-no}
use Rattle.std.proofs.Common.{◌∷◌, [], refl}
use Rattle.ring_core.specs.declared.entry.RingEntry.TheVariants.{Post}
use Rattle.tied_lists.specs.Own.{is_of}
use Rattle.tied_lists.proofs.Growth.{grew-one}
use Rattle.comm_port.proofs.RingTurns.{mine, own-moved, own-on, kept-post}
use Rattle.comm_port.proofs.Steps.{ring-rest}
use Rattle.comm_port.proofs.calling.post_call.Goals as goal

pub returns-clause-grew : goal.returns-clause-grew
returns-clause-grew g c =
    let e = Post c.args.node c.args.frame in
    grew-one g.R.RingSide.alone (is_of c.args.node) _ (e ∷ []) _ (mine c.args.node e refl)
    c.in_ok-post_frame.ensures.went

pub returns-clause-kept : goal.returns-clause-kept
returns-clause-kept g c =
    let o = c.in_ok-post_frame.ensures in
    let e = Post c.args.node c.args.frame in
    kept-post _ c.args.node _ _ c.args.frame
    (own-on _ g.R.RingSide.alone c.args.node _ e _ c.requires.turn o.step.stands.legal o.went)
    (own-moved _ g.R.RingSide.alone c.args.node _ e _ refl c.requires.turn o.step.stands.legal
    o.went)

pub post_frame-requires-clause-free : goal.post_frame-requires-clause-free
post_frame-requires-clause-free g c = free-path-no
    (part_at (g.R.RingSide.side c.args.ring.now).net c.args.node
    (g.R.RingSide.known c.args.ring.now)) c.args.frame.kind c.args.frame.id.path c.requires.free

pub returns-in_err-kept-clause-step : goal.returns-in_err-kept-clause-step
returns-in_err-kept-clause-step g c =
    ring-rest g.R.RingSide c.args.node c.args.ring.now c.requires.turn.on.legal
