use Rattle.std.proofs.Common.{◌≡◌, None, refl, sym, subst}
use Rattle.bridge_relay.specs.Laws.{is_by}
use Rattle.bridge_relay.specs.Legal.{due_back}
use Rattle.comm_port.proofs.Made.{kept-none}
use Rattle.comm_port.proofs.Parts.{part-both, part-none}
use Rattle.comm_port.proofs.RingTurns.{kept-both, kept-same}
use Rattle.bridge_port.specs.EndParts.{ArePosted, IsBackEntry}
use Rattle.bridge_port.specs.Sides.{BridgeSideIs}
use Rattle.bridge_port.proofs.EndSteps.{end-rest, end-then}
use Rattle.bridge_port.proofs.Posted.{posted-both}
use Rattle.bridge_port.proofs.calling.give_all_back.Goals as goal

pub loop-init : goal.loop-init
loop-init g c = record {
  turning = c.requires.turning;
  kept = kept-none (g.R.RingSide.side c.args.ring.now) _ c.args.side c.requires.turning.own_turn;
  part = part-none g.B.BridgeSide.alone g.R.RingSide.alone (is_by c.args.side) c.args.side
      (ArePosted IsBackEntry c.args.side) _ _ (tt, refl);
  step = end-rest g.B.BridgeSide g.R.RingSide c.args.side c.args.bridge.now c.args.ring.now
      c.requires.turning.legal c.requires.turning.own_turn.on.legal;
}

pub loop-preserved : goal.loop-preserved
loop-preserved g c =
    let i = c.loop.invariant in
    let s = c.in_ok-give_back.ensures in
    let n = c.args.side in
    record {
      turning = s.turning;
      kept = kept-both (g.R.RingSide.side c.args.ring.now).net n _ _ _ i.kept
          (kept-same _ _ n _ _ (sym i.step.node.same) s.kept);
      part = part-both g.B.BridgeSide.alone g.R.RingSide.alone (is_by n) n (ArePosted IsBackEntry n)
          (ArePosted IsBackEntry n) (ArePosted IsBackEntry n) _ _ _ _ _ _
          (posted-both n IsBackEntry) i.part s.gave.part;
      step = end-then g.B.BridgeSide g.R.RingSide n i.step s.step;
    }

pub loop-smaller : goal.loop-smaller
loop-smaller g c = c.in_ok-give_back.ensures.gave.less c.if-branch.true

pub returns-clause-kept : goal.returns-clause-kept
returns-clause-kept g c =
    let i = c.loop.invariant in
    kept-both (g.R.RingSide.side c.args.ring.now).net c.args.side _ _ _ i.kept
    (kept-same _ _ c.args.side _ _ (sym i.step.node.same) c.in_ok-give_back.ensures.kept)

pub returns-clause-gave : goal.returns-clause-gave
returns-clause-gave g c =
    let i = c.loop.invariant in
    let s = c.in_ok-give_back.ensures in
    let n = c.args.side in
    record {
      part = part-both g.B.BridgeSide.alone g.R.RingSide.alone (is_by n) n (ArePosted IsBackEntry n)
          (ArePosted IsBackEntry n) (ArePosted IsBackEntry n) _ _ _ _ _ _
          (posted-both n IsBackEntry) i.part s.gave.part;
      none_due = subst
          (λ (b : BridgeSideIs _). due_back b.plan
          (g.B.BridgeSide.known c.give_back.new.bridge) n ≡ None)
          i.step.station.same (s.gave.none_due c.if-branch.false);
    }

pub returns-in_err-give_back-clause-step : goal.returns-in_err-give_back-clause-step
returns-in_err-give_back-clause-step g c =
    end-then g.B.BridgeSide g.R.RingSide c.args.side c.loop.invariant.step
    c.in_err-give_back.ensures.step

pub returns-clause-step : goal.returns-clause-step
returns-clause-step g c =
    end-then g.B.BridgeSide g.R.RingSide c.args.side c.loop.invariant.step
    c.in_ok-give_back.ensures.step
