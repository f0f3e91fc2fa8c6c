use Rattle.comm_port.proofs.Collecting.{made-net, made-local}
use Rattle.comm_port.proofs.Parts.{grew-none}
use Rattle.tied_lists.proofs.Growth.{grew-one}
use Rattle.std.proofs.Common.{refl}
use Rattle.controller_core.specs.declared.entry.Entry.TheVariants.{Finish}
use Rattle.ring_core.specs.declared.entry.RingEntry.TheVariants.{Local}
use Rattle.tied_lists.proofs.Growth.{adds-grew}
use Rattle.joint_history.specs.Reading.{is_ours}
use Rattle.comm_port.specs.Order.{IsCalling}
use Rattle.std.proofs.Common.{◌≡◌, ◌≢◌, ◌<◌, ◌+◌, sym, ap, ◌∙◌, subst, List, ◌∷◌, [], set, Option}
use Rattle.std.proofs.Common.{Some}
use Rattle.ring_core.specs.Machine.{ring_node, ring_after, path_of}
use Rattle.ring_core.specs.declared.frame.Frame.{Frame}
use Rattle.ring_core.specs.declared.entry.LocalOp.{LocalOp}
use Rattle.ring_core.specs.declared.entry.RingEntry.TheVariants.{Post}
use Rattle.tied_lists.specs.Own.{is_of, Grew}
use Rattle.tied_lists.specs.Items.{LocalCall}
use Rattle.joint_history.specs.Reading.{sort_of, called_of}
use Rattle.ring_core.specs.Words.{request_along}
use Rattle.tied_lists.proofs.Routes.{goes-away}
use Rattle.comm_port.specs.Making.{DoesAtHome, Owing, calls_from}
use Rattle.ring_core.specs.declared.path.Await.TheVariants.{Nothing}
use Rattle.comm_port.proofs.GivesUp.{waits-nothing}
use Rattle.comm_port.proofs.Made.{owing-next, may-post, may-do, posted-lead, done-lead}
use Rattle.comm_port.proofs.Steps.{both-rest, both-ring}
use Rattle.comm_port.proofs.calling.make_call.Goals as goal

pub post_call-requires-clause-next : goal.post_call-requires-clause-next
post_call-requires-clause-next g c =
    let call = c.index-calls-at.result in
    let n = c.args.node in
    let o = owing-next n c.args.calls.now c.args.at call _ _ _ _ c.args.waiting.now
    c.requires.within c.index-calls-at.is c.requires.owing in
    let m = may-post n (called_of call) _ c.in-Net.route c.in-Net.pdu _ _ _ _ c.args.waiting.now
    (ap sort_of c.in-Net.is) o in
    subst (λ (f : Frame). (path_of (ring_node
    (ring_after (g.R.RingSide.side c.args.ring.now).net (g.R.RingSide.known
    c.args.ring.now)) n) f.id.path).posted < f.id.seq) (sym c.request-frame.ensures) m.next

pub post_call-requires-clause-to : goal.post_call-requires-clause-to
post_call-requires-clause-to g c =
    let call = c.index-calls-at.result in
    let n = c.args.node in
    let o = owing-next n c.args.calls.now c.args.at call _ _ _ _ c.args.waiting.now
    c.requires.within c.index-calls-at.is c.requires.owing in
    let m = may-post n (called_of call) _ c.in-Net.route c.in-Net.pdu _ _ _ _ c.args.waiting.now
    (ap sort_of c.in-Net.is) o in
    subst (λ (f : Frame). f.to ≢ n) (sym c.request-frame.ensures)
    (goes-away n call.id c.in-Net.route c.in_ok-copied-in-Net.field-0 m.away)

pub do_call-requires-clause-out : goal.do_call-requires-clause-out
do_call-requires-clause-out g c =
    let call = c.index-calls-at.result in
    let n = c.args.node in
    let o = owing-next n c.args.calls.now c.args.at call _ _ _ _ c.args.waiting.now
    c.requires.within c.index-calls-at.is c.requires.owing in (
      LocalCall c.in-Local.op,
      (may-do n (called_of call) _ c.in-Local.op _ _ _ _ c.args.waiting.now
          (ap sort_of c.in-Local.is) o).1,
    )

pub returns-in_ok-post_call-in-Net-clause-owing : goal.returns-in_ok-post_call-in-Net-clause-owing
returns-in_ok-post_call-in-Net-clause-owing g c =
    let call = c.index-calls-at.result in
    let n = c.args.node in
    let p = c.in_ok-post_call-in-Net.ensures in
    let o = owing-next n c.args.calls.now c.args.at call _ _ _ _ c.args.waiting.now
    c.requires.within c.index-calls-at.is c.requires.owing in
    let f = c.request-frame.result in
    let g' = request_along call.id c.in-Net.route c.in-Net.pdu in
    let frame_is : f ≡ g' = c.request-frame.ensures ∙ ap (request_along call.id c.in-Net.route)
    c.in_ok-copied-in-Net.ensures in
    let grew = subst (λ (x : Frame). Grew g.R.RingSide.alone (is_of n)
    (g.R.RingSide.known c.args.ring.now) (Post n x ∷ [])
    (g.R.RingSide.known c.post_call.new.ring)) frame_is p.grew in
    let waits : c.post_call.new.waiting ≡ set c.args.waiting.now call.id.path (Some g') = p.waits
    ∙ ap (λ (x : Frame). set
    c.args.waiting.now x.id.path (Some x)) frame_is in
    subst (λ (w : List (Option Frame)). Owing n (calls_from c.args.calls.now (c.args.at + 1))
    (g.M.RamSide.side c.args.ram.now)
    (g.M.RamSide.known c.args.ram.now) (g.R.RingSide.side c.post_call.new.ring)
    (g.R.RingSide.known c.post_call.new.ring) w)
    (sym waits)
    (posted-lead g.R.RingSide.alone n (called_of call) _ c.in-Net.route c.in-Net.pdu _ _ _ _ _ _
    c.args.waiting.now p.step.same (ap
    sort_of c.in-Net.is) p.step.stands.legal p.kept grew o)

pub returns-in_ok-do_call-in-Local-clause-owing : goal.returns-in_ok-do_call-in-Local-clause-owing
returns-in_ok-do_call-in-Local-clause-owing g c =
    let call = c.index-calls-at.result in
    let n = c.args.node in
    let d = c.in_ok-do_call-in-Local.ensures in
    let o = owing-next n c.args.calls.now c.args.at call _ _ _ _ c.args.waiting.now
    c.requires.within c.index-calls-at.is c.requires.owing in
    let did = subst (λ (op : LocalOp). DoesAtHome g.M.RamSide.alone g.R.RingSide.alone n call.id op
    (g.M.RamSide.known c.args.ram.now)
    (g.M.RamSide.known c.do_call.new.ram) (g.R.RingSide.known c.args.ring.now)
    (g.R.RingSide.known c.do_call.new.ring))
    c.in_ok-copied-in-Local.ensures d.did in
    done-lead g.M.RamSide.alone g.R.RingSide.alone n (called_of call) _ c.in-Local.op _ _ _ _ _ _ _
    _ c.args.waiting.now
    d.step.station.same d.step.node.same (ap sort_of c.in-Local.is) d.step.node.stands.legal d.kept
    did o

pub returns-in_ok-post_call-in-Net-clause-ring_adds :
    goal.returns-in_ok-post_call-in-Net-clause-ring_adds
returns-in_ok-post_call-in-Net-clause-ring_adds g c =
    let n = c.args.node in
    let f = c.request-frame.result in
    adds-grew g.R.RingSide.alone (is_of n) (IsCalling n) _ (Post n f ∷ []) _ (
      ap (λ (x : Frame). x.kind)
          c.request-frame.ensures,
      tt,
    ) c.in_ok-post_call-in-Net.ensures.grew

pub returns-in_ok-do_call-in-Local-clause-ring_adds :
    goal.returns-in_ok-do_call-in-Local-clause-ring_adds
returns-in_ok-do_call-in-Local-clause-ring_adds g c =
    let call = c.index-calls-at.result in
    let n = c.args.node in
    let did = c.in_ok-do_call-in-Local.ensures.did in
    let o = owing-next n c.args.calls.now c.args.at call _ _ _ _ c.args.waiting.now
    c.requires.within c.index-calls-at.is c.requires.owing in
    adds-grew g.R.RingSide.alone (is_of n) (IsCalling n) _
    (Local n call.id c.in_ok-copied-in-Local.field-0 did.outcome ∷ []) _ (o.fresh.0.own, tt)
    did.grew

pub returns-in_ok-post_call-in-Net-clause-made : goal.returns-in_ok-post_call-in-Net-clause-made
returns-in_ok-post_call-in-Net-clause-made g c =
    let n = c.args.node in
    let call = c.index-calls-at.result in
    let frame_is = c.request-frame.ensures ∙ ap (request_along call.id c.in-Net.route)
    c.in_ok-copied-in-Net.ensures in
    let g' = request_along call.id c.in-Net.route c.in-Net.pdu in
    record {
      noted = [];
      done = Post n g' ∷ [];
      due = (call, c.index-calls-at.is, made-net n call c.in-Net.route c.in-Net.pdu c.in-Net.is);
      station = grew-none g.M.RamSide.alone is_ours _;
      node = subst (λ (x : Frame). Grew g.R.RingSide.alone (is_of n)
          (g.R.RingSide.known c.args.ring.now) (Post n x ∷ [])
          (g.R.RingSide.known c.post_call.new.ring)) frame_is c.in_ok-post_call-in-Net.ensures.grew;
    }

pub returns-in_ok-do_call-in-Local-clause-made : goal.returns-in_ok-do_call-in-Local-clause-made
returns-in_ok-do_call-in-Local-clause-made g c =
    let n = c.args.node in
    let call = c.index-calls-at.result in
    let d = c.in_ok-do_call-in-Local.ensures in
    let did = subst (λ (op : LocalOp). DoesAtHome g.M.RamSide.alone g.R.RingSide.alone n call.id op
    (g.M.RamSide.known c.args.ram.now)
    (g.M.RamSide.known c.do_call.new.ram) (g.R.RingSide.known c.args.ring.now)
    (g.R.RingSide.known c.do_call.new.ring))
    c.in_ok-copied-in-Local.ensures d.did in
    record {
      noted = Finish call.id did.outcome ∷ [];
      done = Local n call.id c.in-Local.op did.outcome ∷ [];
      due = (call, c.index-calls-at.is, made-local n call c.in-Local.op did.outcome c.in-Local.is);
      station = grew-one g.M.RamSide.alone is_ours _ (Finish call.id did.outcome ∷ []) _ refl
          did.went;
      node = did.grew;
    }

pub post_call-requires-clause-free : goal.post_call-requires-clause-free
post_call-requires-clause-free g c =
    let call = c.index-calls-at.result in
    let n = c.args.node in
    let o = owing-next n c.args.calls.now c.args.at call _ _ _ _ c.args.waiting.now
    c.requires.within c.index-calls-at.is c.requires.owing in
    let m = may-post n (called_of call) _ c.in-Net.route c.in-Net.pdu _ _ _ _ c.args.waiting.now
    (ap sort_of c.in-Net.is) o in
    subst (λ (f : Frame). (path_of (ring_node
    (ring_after (g.R.RingSide.side c.args.ring.now).net (g.R.RingSide.known
    c.args.ring.now)) n) f.id.path).awaits ≡ Nothing) (sym c.request-frame.ensures)
    (waits-nothing n call.id.path _ _ _ _ _ c.args.waiting.now m.free o.turning)

pub returns-in_err-copied-in-Net-clause-step : goal.returns-in_err-copied-in-Net-clause-step
returns-in_err-copied-in-Net-clause-step g c =
    both-rest g.M.RamSide g.R.RingSide c.args.node c.args.ram.now c.args.ring.now
    c.requires.owing.turning.own_turn.on.legal

pub returns-in_err-post_call-in-Net-clause-step : goal.returns-in_err-post_call-in-Net-clause-step
returns-in_err-post_call-in-Net-clause-step g c =
    both-ring g.M.RamSide g.R.RingSide c.args.node c.args.ram.now
    c.in_err-post_call-in-Net.ensures.step

pub returns-in_ok-post_call-in-Net-clause-step : goal.returns-in_ok-post_call-in-Net-clause-step
returns-in_ok-post_call-in-Net-clause-step g c =
    both-ring g.M.RamSide g.R.RingSide c.args.node c.args.ram.now
    c.in_ok-post_call-in-Net.ensures.step

pub returns-in_err-copied-in-Local-clause-step : goal.returns-in_err-copied-in-Local-clause-step
returns-in_err-copied-in-Local-clause-step g c =
    both-rest g.M.RamSide g.R.RingSide c.args.node c.args.ram.now c.args.ring.now
    c.requires.owing.turning.own_turn.on.legal
