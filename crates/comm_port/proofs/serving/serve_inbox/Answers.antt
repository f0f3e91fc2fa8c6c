use Rattle.comm_port.specs.HoldTurn.{inbox_of}
use Rattle.comm_port.specs.Turns.{IsNoBridge, KeepsInbox}
use Rattle.ring_core.specs.Legal.{IsLegalRing}
use Rattle.plant_types.specs.declared.net.NetPlan.{NetPlan}
use Rattle.comm_port.proofs.Parts.{part-none, net-as, turn-as}
use Rattle.comm_port.proofs.Serves.{serves-more, all-served}
use Rattle.ring_core.specs.declared.entry.RingEntry.TheVariants.{Take}
use Rattle.std.proofs.Common.{refl}
use Rattle.tied_lists.proofs.Growth.{adds_none, adds-both, adds-went}
use Rattle.joint_history.specs.Reading.{is_ours}
use Rattle.comm_port.specs.Order.{IsServing}
use Rattle.comm_port.proofs.RingTurns.{mine}
use Rattle.std.proofs.Common.{◌≡◌, ℕ, ◌∙◌, sym, subst, List, ◌∷◌, [], Option, Some}
use Rattle.std.proofs.Common.{None, Bool}
use Rattle.ring_core.specs.declared.frame.Frame.{Frame}
use Rattle.ring_core.specs.declared.entry.RingEntry.{RingEntry}
use Rattle.tied_lists.specs.Own.{is_of, WentOn}
use Rattle.comm_port.specs.Sides.{taken_entries}
use Rattle.comm_port.proofs.Served.{take-lead, ring-still, holds-still, holds-took, take-less}
use Rattle.comm_port.proofs.Served.{less-kept, holds-kept}
use Rattle.comm_port.proofs.Steps.{both-rest, both-ring, both-then}
use Rattle.comm_port.proofs.serving.serve_inbox.Goals as goal

-- what a Take added
took : (alone : Bool) (n : ℕ) (ring ring' : List RingEntry) (taken taken' : Option Frame)
    → taken ≡ taken' → WentOn alone (is_of
    n) ring (taken_entries n taken) ring'
    → WentOn alone (is_of n) ring (taken_entries n taken') ring'
took alone n ring ring' taken taken' is w = subst
    (λ (o : Option Frame). WentOn alone (is_of n) ring (taken_entries n o) ring') is w

pub serve-requires : goal.serve-requires
serve-requires g c =
    let o = c.in_ok-frame.ensures in
    let f = c.in-Some.frame in
    record {
      taking = take-lead g.R.RingSide.alone c.args.node f _ _ _ _ _ _ c.loop-frame.waiting
          o.step.same (net-as (λ (m : NetPlan). IsNoBridge m c.args.node) _ _
          (sym c.loop-frame.invariant.step.node.same) c.requires.no_bridge) o.step.stands.legal
          (took g.R.RingSide.alone c.args.node _ _ _ (Some f) c.in-Some.is o.went)
          c.loop-frame.invariant.turning;
    }

pub loop-frame-smaller : goal.loop-frame-smaller
loop-frame-smaller g c =
    let o = c.in_ok-frame.ensures in
    let f = c.in-Some.frame in
    let went = took g.R.RingSide.alone c.args.node _ _ _ (Some f) c.in-Some.is o.went in
    let t = c.loop-frame.invariant.turning in
    let side = g.R.RingSide.side in
    let known = g.R.RingSide.known in
    less-kept (side c.loop-frame.ring) (side c.take_next.new.ring) (side c.serve.new.ring)
    c.args.node (known c.loop-frame.ring) (known
    c.take_next.new.ring) (known c.serve.new.ring) o.step.same c.in_ok-serve.ensures.step.node.same
    c.in_ok-serve.ensures.kept (take-less
    g.R.RingSide.alone c.args.node f _ _ _ o.step.stands.legal went t.own_turn)

pub loop-frame-preserved : goal.loop-frame-preserved
loop-frame-preserved g c =
    let o = c.in_ok-frame.ensures in
    let f = c.in-Some.frame in
    let went = took g.R.RingSide.alone c.args.node _ _ _ (Some f) c.in-Some.is o.went in
    let i = c.loop-frame.invariant in
    let s = c.in_ok-serve.ensures in
    record {
      turning = s.turning;
      holds = holds-kept _ _ _ c.args.node _ _ o.step.same s.step.node.same s.kept
          (holds-took g.R.RingSide.alone c.args.node f _ _ _
          o.step.stands.legal went i.turning.own_turn i.holds);
      ring_adds = adds-both g.R.RingSide.alone (is_of c.args.node) (IsServing c.args.node) _ _ _
          i.ring_adds
          (adds-both g.R.RingSide.alone (is_of c.args.node) (IsServing c.args.node) _ _ _
          (adds-went g.R.RingSide.alone (is_of
          c.args.node) (IsServing c.args.node) _ (Take c.args.node f ∷ []) _ (tt, tt)
          (mine c.args.node (Take c.args.node f)
          refl) went) s.ring_adds);
      served = serves-more g.M.RamSide.alone g.R.RingSide.alone c.args.node f _
          (g.R.RingSide.side c.args.ring.now) _ _ _ _ _ _ _
          (net-as (λ (m : NetPlan). IsLegalRing m (g.R.RingSide.known c.take_next.new.ring)) _ _
          i.step.node.same o.step.stands.legal) went
          (turn-as _ _ (g.R.RingSide.known c.loop-frame.ring) c.args.node i.step.node.same
          i.turning.own_turn)
          (net-as (λ (m : NetPlan). KeepsInbox m c.args.node
          (g.R.RingSide.known c.take_next.new.ring)
          (g.R.RingSide.known c.serve.new.ring)) _ _ (o.step.same ∙ i.step.node.same) s.kept)
          i.served s.served;
      step = both-then g.M.RamSide g.R.RingSide c.args.node i.step
          (both-then g.M.RamSide g.R.RingSide c.args.node
          (both-ring g.M.RamSide g.R.RingSide c.args.node c.loop-frame.ram o.step) s.step);
    }

pub returns-clause-turning : goal.returns-clause-turning
returns-clause-turning g c =
    let o = c.in_ok-frame.ensures in
    ring-still g.R.RingSide.alone c.args.node [] _ _ _ _ _ _ c.loop-frame.waiting o.step.same
    o.step.stands.legal
    (took g.R.RingSide.alone c.args.node _ _ _ None c.in_default.is o.went)
    c.loop-frame.invariant.turning

pub returns-clause-holds : goal.returns-clause-holds
returns-clause-holds g c =
    let o = c.in_ok-frame.ensures in
    holds-still g.R.RingSide.alone c.args.node _ _ _ _ o.step.same o.step.stands.legal
    (took g.R.RingSide.alone c.args.node _ _ _ None c.in_default.is o.went)
    c.loop-frame.invariant.turning.own_turn c.loop-frame.invariant.holds

pub returns-clause-ring_adds : goal.returns-clause-ring_adds
returns-clause-ring_adds g c =
    let o = c.in_ok-frame.ensures in
    let n = c.args.node in
    adds-both g.R.RingSide.alone (is_of n) (IsServing n) _ _ _ c.loop-frame.invariant.ring_adds
    (adds-went g.R.RingSide.alone (is_of n) (IsServing n) _ [] _ tt refl
    (took g.R.RingSide.alone n _ _ _ None c.in_default.is o.went))

pub loop-frame-init : goal.loop-frame-init
loop-frame-init g c = record {
  turning = c.requires.turning;
  holds = c.requires.holds;
  ring_adds = adds_none g.R.RingSide.alone (is_of c.args.node) (IsServing c.args.node) _;
  served = part-none g.M.RamSide.alone g.R.RingSide.alone is_ours c.args.node _ _ _
      ([], refl, (refl, refl));
  step = both-rest g.M.RamSide g.R.RingSide c.args.node c.args.ram.now c.args.ring.now
      c.requires.turning.own_turn.on.legal;
}

pub returns-clause-served : goal.returns-clause-served
returns-clause-served g c =
    let o = c.in_ok-frame.ensures in
    let i = c.loop-frame.invariant in
    let n = c.args.node in
    all-served g.M.RamSide.alone g.R.RingSide.alone n _ (g.R.RingSide.side c.args.ring.now) _ _ _ _
    _
    (net-as (λ (m : NetPlan). IsLegalRing m (g.R.RingSide.known c.take_next.new.ring)) _ _
    i.step.node.same o.step.stands.legal)
    (took g.R.RingSide.alone n _ _ _ None c.in_default.is o.went)
    (turn-as _ _ (g.R.RingSide.known c.loop-frame.ring) n i.step.node.same i.turning.own_turn)
    (net-as (λ (m : NetPlan). inbox_of m n (g.R.RingSide.known c.take_next.new.ring) ≡ []) _ _
    i.step.node.same (o.empty c.in_default.is)) i.served

pub returns-clause-empty : goal.returns-clause-empty
returns-clause-empty g c =
    let o = c.in_ok-frame.ensures in
    let i = c.loop-frame.invariant in
    net-as (λ (m : NetPlan). inbox_of m c.args.node (g.R.RingSide.known c.take_next.new.ring) ≡ [])
    _ _ i.step.node.same (o.empty c.in_default.is)

pub returns-in_err-frame-clause-step : goal.returns-in_err-frame-clause-step
returns-in_err-frame-clause-step g c =
    both-then g.M.RamSide g.R.RingSide c.args.node c.loop-frame.invariant.step
    (both-ring g.M.RamSide g.R.RingSide c.args.node c.loop-frame.ram
    c.in_err-frame.ensures.step)

pub returns-in_err-serve-clause-step : goal.returns-in_err-serve-clause-step
returns-in_err-serve-clause-step g c =
    both-then g.M.RamSide g.R.RingSide c.args.node c.loop-frame.invariant.step
    (both-then g.M.RamSide g.R.RingSide c.args.node
    (both-ring g.M.RamSide g.R.RingSide c.args.node c.loop-frame.ram c.in_ok-frame.ensures.step)
    c.in_err-serve.ensures.step)

pub returns-clause-step : goal.returns-clause-step
returns-clause-step g c =
    both-then g.M.RamSide g.R.RingSide c.args.node c.loop-frame.invariant.step
    (both-ring g.M.RamSide g.R.RingSide c.args.node c.loop-frame.ram c.in_ok-frame.ensures.step)
