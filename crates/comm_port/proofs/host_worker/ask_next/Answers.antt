use Rattle.std.proofs.Common.{refl, sym, ◌∙◌, [], ◌∷◌}
use Rattle.ring_core.specs.declared.entry.RingEntry.TheVariants.{Post}
use Rattle.tied_lists.specs.Own.{is_of}
use Rattle.tied_lists.proofs.Growth.{grew-one}
use Rattle.comm_port.proofs.HostAsks.{ask-next, due-kind, fewer-asks, from-some, turning-asked}
use Rattle.comm_port.proofs.HostAsks.{went-some}
use Rattle.comm_port.proofs.HostAsked.{path-out}
use Rattle.comm_port.proofs.HostRefusals.{post-short}
use Rattle.comm_port.proofs.RingTurns.{mine}
use Rattle.comm_port.proofs.Steps.{host-noted, ring-called, ring-rest}
use Rattle.comm_port.proofs.host_worker.ask_next.Goals as goal

pub post-requires-clause-next : goal.post-requires-clause-next
post-requires-clause-next g c =
    let o = c.in_ok-frame.ensures in
    let f = c.in-Some.frame in
    ask-next c.args.node f _ _ _ _ c.requires.turning
    (due-kind c.args.host.now c.args.hold f (sym c.in-Some.is ∙ o.request))
    (went-some c.in_ok-frame.field-0 f c.args.host.now c.ask.new.self c.in-Some.is o.went_on)

pub returns-in-Ok-clause-turning : goal.returns-in-Ok-clause-turning
returns-in-Ok-clause-turning g c =
    let o = c.in_ok-frame.ensures in
    let f = c.in-Some.frame in
    let p = c.in-Ok.ensures in
    (turning-asked g.R.RingSide.alone c.args.node f _ _ _ _ _ c.requires.turning
    (due-kind c.args.host.now c.args.hold f (sym
    c.in-Some.is ∙ o.request)) (went-some c.in_ok-frame.field-0 f c.args.host.now c.ask.new.self
    c.in-Some.is o.went_on)
    p.went.list p.legal).0

pub returns-in-Ok-clause-kept : goal.returns-in-Ok-clause-kept
returns-in-Ok-clause-kept g c =
    let o = c.in_ok-frame.ensures in
    let f = c.in-Some.frame in
    let p = c.in-Ok.ensures in
    (turning-asked g.R.RingSide.alone c.args.node f _ _ _ _ _ c.requires.turning
    (due-kind c.args.host.now c.args.hold f (sym
    c.in-Some.is ∙ o.request)) (went-some c.in_ok-frame.field-0 f c.args.host.now c.ask.new.self
    c.in-Some.is o.went_on)
    p.went.list p.legal).1

pub returns-in-Ok-clause-asked : goal.returns-in-Ok-clause-asked
returns-in-Ok-clause-asked g c =
    let o = c.in_ok-frame.ensures in
    let f = c.in-Some.frame in
    let p = c.in-Ok.ensures in
    let due = sym c.in-Some.is ∙ o.request in
    let kind = due-kind c.args.host.now c.args.hold f due in
    let went = went-some c.in_ok-frame.field-0 f c.args.host.now c.ask.new.self c.in-Some.is
    o.went_on in
    let is_path = (from-some _ c.in_ok-frame.field-0 f c.in-Some.is o.from).2 in
    let out = path-out g.R.RingSide.alone c.args.node f _ _ _ c.requires.turning.own_turn kind
    is_path p.went.list p.legal in
    record {
      ask = f;
      due = sym due;
      asked = went.history;
      grew = grew-one g.R.RingSide.alone (is_of c.args.node) _ (Post c.args.node f ∷ []) _
          (mine c.args.node (Post c.args.node f) refl) p.went.list;
      path_is = refl;
      is_path = is_path;
      out = out.out;
      others = out.others;
      fewer = fewer-asks c.args.host.now c.ask.new.self f c.args.hold due went;
    }

pub of-requires : goal.of-requires
of-requires g c =
    let o = c.in_ok-frame.ensures in
    let f = c.in-Some.frame in
    let e = c.in-Err.ensures in
    post-short g.R.RingSide.alone c.args.node f _ _ _ _ _ c.in-Err.why c.requires.turning
    (due-kind c.args.host.now c.args.hold f (sym c.in-Some.is ∙ o.request))
    (went-some c.in_ok-frame.field-0 f c.args.host.now c.ask.new.self c.in-Some.is o.went_on)
    e.legal e.went.list e.refused

pub returns-in_err-frame-clause-step : goal.returns-in_err-frame-clause-step
returns-in_err-frame-clause-step g c =
    host-noted g.R.RingSide c.args.node c.in_err-frame.ensures.went_on
    (ring-rest g.R.RingSide c.args.node c.args.ring.now c.requires.turning.own_turn.on.legal)

pub returns-in_default-clause-step : goal.returns-in_default-clause-step
returns-in_default-clause-step g c =
    host-noted g.R.RingSide c.args.node c.in_ok-frame.ensures.went_on
    (ring-rest g.R.RingSide c.args.node c.args.ring.now c.requires.turning.own_turn.on.legal)

pub returns-in-Ok-clause-step : goal.returns-in-Ok-clause-step
returns-in-Ok-clause-step g c =
    let f = c.in-Some.frame in
    let p = c.in-Ok.ensures in
    host-noted g.R.RingSide c.args.node
    (went-some c.in_ok-frame.field-0 f c.args.host.now c.ask.new.self c.in-Some.is
    c.in_ok-frame.ensures.went_on)
    (ring-called g.R.RingSide c.args.node p.same p.legal p.went
    (mine c.args.node (Post c.args.node f) refl))

pub returns-in-Err-clause-step : goal.returns-in-Err-clause-step
returns-in-Err-clause-step g c =
    let f = c.in-Some.frame in
    let e = c.in-Err.ensures in
    host-noted g.R.RingSide c.args.node
    (went-some c.in_ok-frame.field-0 f c.args.host.now c.ask.new.self c.in-Some.is
    c.in_ok-frame.ensures.went_on)
    (ring-called g.R.RingSide c.args.node e.same e.legal e.went refl)
