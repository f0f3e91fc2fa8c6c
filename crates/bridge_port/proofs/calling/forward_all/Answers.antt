use Rattle.std.proofs.Common.{◌<◌, refl, sym, subst}
use Rattle.plant_types.specs.declared.net.NetPlan.{NetPlan}
use Rattle.bridge_relay.specs.Laws.{is_by}
use Rattle.comm_port.proofs.Made.{kept-none}
use Rattle.comm_port.proofs.Parts.{net-as, part-none}
use Rattle.comm_port.proofs.RingTurns.{kept-both, kept-same}
use Rattle.bridge_port.specs.EndParts.{ForwardsNone, ForwardsOne, paths_left}
use Rattle.bridge_port.specs.Sides.{BridgeSideIs}
use Rattle.bridge_port.proofs.EndSteps.{end-rest, end-then}
use Rattle.bridge_port.proofs.ForwardsAll.{forwards-end, forwards-next, forwards-none}
use Rattle.bridge_port.proofs.ForwardsAll.{forwards-some}
use Rattle.bridge_port.proofs.calling.forward_all.Goals as goal

pub loop-path-init : goal.loop-path-init
loop-path-init g c = record {
  turning = c.requires.turning;
  kept = kept-none (g.R.RingSide.side c.args.ring.now) _ c.args.side c.requires.turning.own_turn;
  wait = c.requires.wait;
  forwarded = record {
    size = refl;
    may = c.requires.may;
    part = part-none g.B.BridgeSide.alone g.R.RingSide.alone (is_by c.args.side) c.args.side _ _ _
        ((tt, refl), refl);
  };
  step = end-rest g.B.BridgeSide g.R.RingSide c.args.side c.args.bridge.now c.args.ring.now
      c.requires.turning.legal c.requires.turning.own_turn.on.legal;
}

pub loop-path-smaller : goal.loop-path-smaller
loop-path-smaller g c =
    let s = c.in_ok-path.ensures in
    let n = c.args.side in
    let one = forwards-some g.B.BridgeSide.alone g.R.RingSide.alone _ _ n _ _ _ _ _
    c.in-Some.path c.in-Some.is s.forwarded in
    subst (λ (b : BridgeSideIs _).
    paths_left b.plan n (g.B.BridgeSide.known c.forward_next.new.bridge)
    < paths_left (g.B.BridgeSide.bridge c.loop-path.bridge).plan n
    (g.B.BridgeSide.known c.loop-path.bridge)) (sym s.step.station.same) one.fewer

pub loop-path-preserved : goal.loop-path-preserved
loop-path-preserved g c =
    let i = c.loop-path.invariant in
    let s = c.in_ok-path.ensures in
    let n = c.args.side in
    let one = forwards-some g.B.BridgeSide.alone g.R.RingSide.alone _ _ n _ _ _ _ _
    c.in-Some.path c.in-Some.is s.forwarded in
    let here = net-as (λ (m : NetPlan). ForwardsOne g.B.BridgeSide.alone g.R.RingSide.alone
    (g.B.BridgeSide.bridge c.loop-path.bridge).plan m n c.in-Some.path
    (g.B.BridgeSide.known c.loop-path.bridge) (g.B.BridgeSide.known c.forward_next.new.bridge)
    (g.R.RingSide.known c.loop-path.ring) (g.R.RingSide.known c.forward_next.new.ring)) _ _
    i.step.node.same one in
    record {
      turning = s.turning;
      kept = kept-both (g.R.RingSide.side c.args.ring.now).net n _ _ _ i.kept
          (kept-same _ _ n _ _ (sym i.step.node.same) s.kept);
      wait = i.wait;
      forwarded = forwards-next g.B.BridgeSide.alone g.R.RingSide.alone _ _ n c.in-Some.path
          c.from.result _ _ _ _ _ _ _ i.wait c.from.ensures i.forwarded here;
      step = end-then g.B.BridgeSide g.R.RingSide n i.step s.step;
    }

pub returns-clause-kept : goal.returns-clause-kept
returns-clause-kept g c =
    let i = c.loop-path.invariant in
    kept-both (g.R.RingSide.side c.args.ring.now).net c.args.side _ _ _ i.kept
    (kept-same _ _ c.args.side _ _ (sym i.step.node.same) c.in_ok-path.ensures.kept)

pub returns-clause-forwarded : goal.returns-clause-forwarded
returns-clause-forwarded g c =
    let i = c.loop-path.invariant in
    let s = c.in_ok-path.ensures in
    let n = c.args.side in
    let none = forwards-none g.B.BridgeSide.alone g.R.RingSide.alone _
    (g.R.RingSide.side c.loop-path.ring).net n _ _ _ _ _ c.in_default.is s.forwarded in
    let here = subst (λ (b : BridgeSideIs _). ForwardsNone g.B.BridgeSide.alone b.plan n
    (g.B.BridgeSide.known c.loop-path.bridge) (g.B.BridgeSide.known c.forward_next.new.bridge)
    (g.R.RingSide.known c.loop-path.ring) (g.R.RingSide.known c.forward_next.new.ring))
    i.step.station.same none in
    forwards-end g.B.BridgeSide.alone g.R.RingSide.alone _ _ n _ _ _ _ _ _ _ i.forwarded here

pub returns-in_err-path-clause-step : goal.returns-in_err-path-clause-step
returns-in_err-path-clause-step g c =
    end-then g.B.BridgeSide g.R.RingSide c.args.side c.loop-path.invariant.step
    c.in_err-path.ensures.step

pub returns-clause-step : goal.returns-clause-step
returns-clause-step g c =
    end-then g.B.BridgeSide g.R.RingSide c.args.side c.loop-path.invariant.step
    c.in_ok-path.ensures.step
