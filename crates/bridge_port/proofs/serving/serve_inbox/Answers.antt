use Rattle.std.proofs.Common.{◌≡◌, ℕ, Bool, List, [], ◌∷◌, Option, Some, None, refl, ◌∙◌, subst}
use Rattle.plant_types.specs.declared.net.NetPlan.{NetPlan}
use Rattle.ring_core.specs.Legal.{IsLegalRing}
use Rattle.ring_core.specs.declared.frame.Frame.{Frame}
use Rattle.ring_core.specs.declared.entry.RingEntry.{RingEntry}
use Rattle.ring_core.specs.declared.entry.RingEntry.TheVariants.{Take}
use Rattle.bridge_relay.specs.Laws.{is_by}
use Rattle.tied_lists.specs.Own.{is_of, WentOn}
use Rattle.tied_lists.proofs.Growth.{adds-both, adds-went, adds_none}
use Rattle.comm_port.specs.Giving.{inbox_of}
use Rattle.comm_port.specs.Order.{IsServing}
use Rattle.comm_port.specs.Sides.{taken_entries}
use Rattle.comm_port.specs.Turns.{KeepsInbox}
use Rattle.comm_port.proofs.Parts.{net-as, part-none, turn-as}
use Rattle.comm_port.proofs.RingTurns.{mine}
use Rattle.comm_port.proofs.Served.{holds-kept, holds-still, holds-took, less-kept, take-less}
use Rattle.bridge_port.proofs.EndSteps.{end-rest, end-ring, end-then}
use Rattle.bridge_port.proofs.Served.{all-served, serves-more}
use Rattle.bridge_port.proofs.Turning.{taking-now, turning-still}
use Rattle.bridge_port.proofs.serving.serve_inbox.Goals as goal

-- what a Take added
took : (alone : Bool) (n : ℕ) (ring ring' : List RingEntry) (taken taken' : Option Frame)
    → taken ≡ taken' → WentOn alone (is_of n) ring (taken_entries n taken) ring'
    → WentOn alone (is_of n) ring (taken_entries n taken') ring'
took alone n ring ring' taken taken' is w = subst
    (λ (o : Option Frame). WentOn alone (is_of n) ring (taken_entries n o) ring') is w

pub loop-frame-init : goal.loop-frame-init
loop-frame-init g c = record {
  turning = c.requires.turning;
  holds = c.requires.holds;
  ring_adds = adds_none g.R.RingSide.alone (is_of c.args.side) (IsServing c.args.side) _;
  served = part-none g.B.BridgeSide.alone g.R.RingSide.alone (is_by c.args.side) c.args.side _ _ _
      ([], refl, (refl, refl));
  step = end-rest g.B.BridgeSide g.R.RingSide c.args.side c.args.bridge.now c.args.ring.now
      c.requires.turning.legal c.requires.turning.own_turn.on.legal;
}

pub take_next-requires : goal.take_next-requires
take_next-requires g c =
    let i = c.loop-frame.invariant in
    record { turn = i.turning.own_turn; holds = i.holds }

pub serve-requires : goal.serve-requires
serve-requires g c =
    let o = c.in_ok-frame.ensures in
    let f = c.in-Some.frame in
    record {
      taking = taking-now g.R.RingSide.alone c.args.side f _ _ _ _ _ _ o.step.same
          o.step.stands.legal
          (took g.R.RingSide.alone c.args.side _ _ _ (Some f) c.in-Some.is o.went)
          c.loop-frame.invariant.turning;
    }

pub loop-frame-smaller : goal.loop-frame-smaller
loop-frame-smaller g c =
    let o = c.in_ok-frame.ensures in
    let f = c.in-Some.frame in
    let went = took g.R.RingSide.alone c.args.side _ _ _ (Some f) c.in-Some.is o.went in
    let t = c.loop-frame.invariant.turning in
    let side = g.R.RingSide.side in
    let known = g.R.RingSide.known in
    less-kept (side c.loop-frame.ring) (side c.take_next.new.ring) (side c.serve.new.ring)
    c.args.side (known c.loop-frame.ring) (known c.take_next.new.ring) (known c.serve.new.ring)
    o.step.same c.in_ok-serve.ensures.step.node.same c.in_ok-serve.ensures.kept
    (take-less g.R.RingSide.alone c.args.side f _ _ _ o.step.stands.legal went t.own_turn)

pub loop-frame-preserved : goal.loop-frame-preserved
loop-frame-preserved g c =
    let o = c.in_ok-frame.ensures in
    let f = c.in-Some.frame in
    let n = c.args.side in
    let went = took g.R.RingSide.alone n _ _ _ (Some f) c.in-Some.is o.went in
    let i = c.loop-frame.invariant in
    let s = c.in_ok-serve.ensures in
    record {
      turning = s.turning;
      holds = holds-kept _ _ _ n _ _ o.step.same s.step.node.same s.kept
          (holds-took g.R.RingSide.alone n f _ _ _ o.step.stands.legal went i.turning.own_turn
          i.holds);
      ring_adds = adds-both g.R.RingSide.alone (is_of n) (IsServing n) _ _ _ i.ring_adds
          (adds-both g.R.RingSide.alone (is_of n) (IsServing n) _ _ _
          (adds-went g.R.RingSide.alone (is_of n) (IsServing n) _ (Take n f ∷ []) _ (tt, tt)
          (mine n (Take n f) refl) went) s.ring_adds);
      served = serves-more g.B.BridgeSide.alone g.R.RingSide.alone n f _
          (g.R.RingSide.side c.args.ring.now) _ _ _ _ _ _ _
          (net-as (λ (m : NetPlan). IsLegalRing m (g.R.RingSide.known c.take_next.new.ring)) _ _
          i.step.node.same o.step.stands.legal) went
          (turn-as _ _ (g.R.RingSide.known c.loop-frame.ring) n i.step.node.same
          i.turning.own_turn)
          (net-as (λ (m : NetPlan). KeepsInbox m n (g.R.RingSide.known c.take_next.new.ring)
          (g.R.RingSide.known c.serve.new.ring)) _ _ (o.step.same ∙ i.step.node.same) s.kept)
          i.served s.served;
      step = end-then g.B.BridgeSide g.R.RingSide n i.step
          (end-then g.B.BridgeSide g.R.RingSide n
          (end-ring g.B.BridgeSide g.R.RingSide n c.loop-frame.bridge i.turning.legal o.step)
          s.step);
    }

pub returns-clause-turning : goal.returns-clause-turning
returns-clause-turning g c =
    let o = c.in_ok-frame.ensures in
    turning-still g.R.RingSide.alone c.args.side _ _ _ _ _ _ o.step.same o.step.stands.legal
    (took g.R.RingSide.alone c.args.side _ _ _ None c.in_default.is o.went)
    c.loop-frame.invariant.turning

pub returns-clause-holds : goal.returns-clause-holds
returns-clause-holds g c =
    let o = c.in_ok-frame.ensures in
    holds-still g.R.RingSide.alone c.args.side _ _ _ _ o.step.same o.step.stands.legal
    (took g.R.RingSide.alone c.args.side _ _ _ None c.in_default.is o.went)
    c.loop-frame.invariant.turning.own_turn c.loop-frame.invariant.holds

pub returns-clause-ring_adds : goal.returns-clause-ring_adds
returns-clause-ring_adds g c =
    let o = c.in_ok-frame.ensures in
    let n = c.args.side in
    adds-both g.R.RingSide.alone (is_of n) (IsServing n) _ _ _ c.loop-frame.invariant.ring_adds
    (adds-went g.R.RingSide.alone (is_of n) (IsServing n) _ [] _ tt refl
    (took g.R.RingSide.alone n _ _ _ None c.in_default.is o.went))

pub returns-clause-served : goal.returns-clause-served
returns-clause-served g c =
    let o = c.in_ok-frame.ensures in
    let i = c.loop-frame.invariant in
    let n = c.args.side in
    all-served g.B.BridgeSide.alone g.R.RingSide.alone n _ (g.R.RingSide.side c.args.ring.now) _ _
    _ _ _
    (net-as (λ (m : NetPlan). IsLegalRing m (g.R.RingSide.known c.take_next.new.ring)) _ _
    i.step.node.same o.step.stands.legal)
    (took g.R.RingSide.alone n _ _ _ None c.in_default.is o.went)
    (turn-as _ _ (g.R.RingSide.known c.loop-frame.ring) n i.step.node.same i.turning.own_turn)
    (net-as (λ (m : NetPlan). inbox_of m n (g.R.RingSide.known c.take_next.new.ring) ≡ []) _ _
    i.step.node.same (o.empty c.in_default.is)) i.served

pub returns-clause-empty : goal.returns-clause-empty
returns-clause-empty g c =
    let o = c.in_ok-frame.ensures in
    let i = c.loop-frame.invariant in
    net-as (λ (m : NetPlan). inbox_of m c.args.side (g.R.RingSide.known c.take_next.new.ring) ≡ [])
    _ _ i.step.node.same (o.empty c.in_default.is)

pub returns-in_err-frame-clause-step : goal.returns-in_err-frame-clause-step
returns-in_err-frame-clause-step g c =
    end-then g.B.BridgeSide g.R.RingSide c.args.side c.loop-frame.invariant.step
    (end-ring g.B.BridgeSide g.R.RingSide c.args.side c.loop-frame.bridge
    c.loop-frame.invariant.turning.legal c.in_err-frame.ensures.step)

pub returns-in_err-serve-clause-step : goal.returns-in_err-serve-clause-step
returns-in_err-serve-clause-step g c =
    end-then g.B.BridgeSide g.R.RingSide c.args.side c.loop-frame.invariant.step
    (end-then g.B.BridgeSide g.R.RingSide c.args.side
    (end-ring g.B.BridgeSide g.R.RingSide c.args.side c.loop-frame.bridge
    c.loop-frame.invariant.turning.legal c.in_ok-frame.ensures.step)
    c.in_err-serve.ensures.step)

pub returns-clause-step : goal.returns-clause-step
returns-clause-step g c =
    end-then g.B.BridgeSide g.R.RingSide c.args.side c.loop-frame.invariant.step
    (end-ring g.B.BridgeSide g.R.RingSide c.args.side c.loop-frame.bridge
    c.loop-frame.invariant.turning.legal c.in_ok-frame.ensures.step)
