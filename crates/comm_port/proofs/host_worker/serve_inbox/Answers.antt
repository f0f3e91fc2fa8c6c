use Rattle.std.proofs.Common.{◌≡◌, sym, ◌∙◌, subst, List, Option, Some, None}
use Rattle.std.proofs.Common.{Bool, ℕ}
use Rattle.plant_types.specs.declared.net.NetPlan.{NetPlan}
use Rattle.ring_core.specs.declared.frame.Frame.{Frame}
use Rattle.ring_core.specs.declared.entry.RingEntry.{RingEntry}
use Rattle.tied_lists.specs.Own.{is_of, WentOn}
use Rattle.comm_port.specs.Sides.{taken_entries}
use Rattle.comm_port.specs.Turns.{IsNoBridge}
use Rattle.comm_port.proofs.Served.{holds-kept, holds-still, holds-took, less-kept, take-less}
use Rattle.comm_port.proofs.HostTurning.{taking-now, turning-side, turning-still}
use Rattle.comm_port.proofs.HostServes.{serves-at, so-far-at, so-far-end, so-far-next, so-far-start}
use Rattle.comm_port.proofs.RingTurns.{kept-same}
use Rattle.comm_port.proofs.Parts.{net-as}
use Rattle.comm_port.proofs.Steps.{host-ring, host-then, ring-rest}
use Rattle.comm_port.proofs.host_worker.serve_inbox.Goals as goal

-- what a Take added
took : (alone : Bool) (n : ℕ) (ring ring' : List RingEntry) (taken taken' : Option Frame)
    → taken ≡ taken' → WentOn alone (is_of
    n) ring (taken_entries n taken) ring'
    → WentOn alone (is_of n) ring (taken_entries n taken') ring'
took alone n ring ring' taken taken' is w = subst
    (λ (o : Option Frame). WentOn alone (is_of n) ring (taken_entries n o) ring') is w

pub serve-requires : goal.serve-requires
serve-requires g c =
    let o = c.in_ok-frame.ensures in
    let f = c.in-Some.frame in
    record {
      taking = taking-now g.R.RingSide.alone c.args.node f _ _ _ _ _ o.step.same
          (net-as (λ (m : NetPlan). IsNoBridge m c.args.node) _ _
          (sym c.loop-frame.invariant.step.node.same) c.requires.no_bridge) o.step.stands.legal
          (took g.R.RingSide.alone c.args.node _
          _ _ (Some f) c.in-Some.is o.went) c.loop-frame.invariant.turning;
    }

pub loop-frame-smaller : goal.loop-frame-smaller
loop-frame-smaller g c =
    let o = c.in_ok-frame.ensures in
    let f = c.in-Some.frame in
    let went = took g.R.RingSide.alone c.args.node _ _ _ (Some f) c.in-Some.is o.went in
    let t = c.loop-frame.invariant.turning in
    let side = g.R.RingSide.side in
    let known = g.R.RingSide.known in
    less-kept (side c.loop-frame.ring) (side c.take_next.new.ring) (side c.serve.new.ring)
    c.args.node (known c.loop-frame.ring) (known
    c.take_next.new.ring) (known c.serve.new.ring) o.step.same c.in_ok-serve.ensures.step.node.same
    c.in_ok-serve.ensures.kept (take-less
    g.R.RingSide.alone c.args.node f _ _ _ o.step.stands.legal went t.own_turn)

pub loop-frame-preserved : goal.loop-frame-preserved
loop-frame-preserved g c =
    let o = c.in_ok-frame.ensures in
    let f = c.in-Some.frame in
    let went = took g.R.RingSide.alone c.args.node _ _ _ (Some f) c.in-Some.is o.went in
    let i = c.loop-frame.invariant in
    let s = c.in_ok-serve.ensures in
    record {
      turning = turning-side c.args.node _ _ _ _ s.step.node.same s.turning;
      holds = holds-kept _ _ _ c.args.node _ _ o.step.same s.step.node.same s.kept
          (holds-took g.R.RingSide.alone c.args.node f _ _ _ o.step.stands.legal went
          i.turning.own_turn i.holds);
      served = so-far-at g.R.RingSide.alone c.args.node (g.R.RingSide.side c.loop-frame.ring) _ _ _
          _ _ (s.step.node.same ∙ o.step.same)
          (so-far-next g.R.RingSide.alone c.args.node f _ _ _ _ _ _ _ _ i.turning.own_turn i.served
          o.step.stands.legal went
          (kept-same (g.R.RingSide.side c.loop-frame.ring) (g.R.RingSide.side c.take_next.new.ring)
          c.args.node _ _ (sym o.step.same) s.kept) s.served);
      step = host-then g.R.RingSide c.args.node i.step
          (host-then g.R.RingSide c.args.node
          (host-ring g.R.RingSide c.args.node c.loop-frame.host i.turning.legal o.step) s.step);
    }

pub returns-clause-turning : goal.returns-clause-turning
returns-clause-turning g c =
    let o = c.in_ok-frame.ensures in
    let i = c.loop-frame.invariant in
    let went = took g.R.RingSide.alone c.args.node _ _ _ None c.in_default.is o.went in
    turning-side c.args.node _ _ _ _ (sym i.step.node.same)
    (turning-still g.R.RingSide.alone c.args.node _ _ _ _ o.step.stands.legal went i.turning)

pub returns-clause-holds : goal.returns-clause-holds
returns-clause-holds g c =
    let o = c.in_ok-frame.ensures in
    let i = c.loop-frame.invariant in
    let went = took g.R.RingSide.alone c.args.node _ _ _ None c.in_default.is o.went in
    holds-still g.R.RingSide.alone c.args.node _ _ _ _ (sym i.step.node.same) o.step.stands.legal
    went i.turning.own_turn i.holds

pub returns-clause-served : goal.returns-clause-served
returns-clause-served g c =
    let o = c.in_ok-frame.ensures in
    let i = c.loop-frame.invariant in
    let went = took g.R.RingSide.alone c.args.node _ _ _ None c.in_default.is o.went in
    serves-at g.R.RingSide.alone c.args.node (g.R.RingSide.side c.loop-frame.ring) _ _ _ _ _
    (sym i.step.node.same)
    (so-far-end g.R.RingSide.alone c.args.node _ _ _ _ _ _ i.turning.own_turn i.served
    o.step.stands.legal went (o.empty c.in_default.is))

pub loop-frame-init : goal.loop-frame-init
loop-frame-init g c = record {
  turning = c.requires.turning;
  holds = c.requires.holds;
  served = so-far-start g.R.RingSide.alone _ c.args.node _ _;
  step = host-ring g.R.RingSide c.args.node c.args.host.now c.requires.turning.legal
      (ring-rest g.R.RingSide c.args.node c.args.ring.now c.requires.turning.own_turn.on.legal);
}

pub take_next-requires : goal.take_next-requires
take_next-requires g c =
    let i = c.loop-frame.invariant in
    record { turn = i.turning.own_turn; holds = i.holds }

pub returns-in_err-frame-clause-step : goal.returns-in_err-frame-clause-step
returns-in_err-frame-clause-step g c =
    host-then g.R.RingSide c.args.node c.loop-frame.invariant.step
    (host-ring g.R.RingSide c.args.node c.loop-frame.host c.loop-frame.invariant.turning.legal
    c.in_err-frame.ensures.step)

pub returns-in_err-serve-clause-step : goal.returns-in_err-serve-clause-step
returns-in_err-serve-clause-step g c =
    host-then g.R.RingSide c.args.node c.loop-frame.invariant.step
    (host-then g.R.RingSide c.args.node
    (host-ring g.R.RingSide c.args.node c.loop-frame.host c.loop-frame.invariant.turning.legal
    c.in_ok-frame.ensures.step) c.in_err-serve.ensures.step)

pub returns-clause-step : goal.returns-clause-step
returns-clause-step g c =
    host-then g.R.RingSide c.args.node c.loop-frame.invariant.step
    (host-ring g.R.RingSide c.args.node c.loop-frame.host c.loop-frame.invariant.turning.legal
    c.in_ok-frame.ensures.step)
