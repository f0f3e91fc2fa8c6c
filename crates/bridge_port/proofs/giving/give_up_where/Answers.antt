use Rattle.std.proofs.Common.{◌+◌, ◌<◌, ◌≤◌, ◌∙◌, ℕ, [], ◌∷◌, ap, get_or, refl, sym, subst, arith}
use Rattle.mstr_block.specs.Table.{network_paths}
use Rattle.plant_types.specs.declared.net.NetPlan.{NetPlan}
use Rattle.bridge_relay.specs.Laws.{is_by}
use Rattle.comm_port.specs.Giving.{GivesOnPath, due_calls, is_chosen}
use Rattle.comm_port.specs.Parts.{InOrder, PartOf}
use Rattle.comm_port.proofs.Given.{less-both}
use Rattle.comm_port.proofs.GivesUp.{path-next, where-more, where-none, where-skip}
use Rattle.comm_port.proofs.HostGives.{left-at}
use Rattle.comm_port.proofs.Made.{kept-none}
use Rattle.comm_port.proofs.Parts.{net-as, part-none}
use Rattle.comm_port.proofs.RingTurns.{kept-both, kept-same}
use Rattle.bridge_port.specs.EndParts.{EndGivesUp}
use Rattle.bridge_port.proofs.EndSteps.{end-rest, end-then}
use Rattle.bridge_port.proofs.GivesUp.{given-more, given-skip}
use Rattle.bridge_port.proofs.giving.give_up_where.Goals as goal

pub loop-path-preserved : goal.loop-path-preserved
loop-path-preserved g c =
    let bs = g.B.BridgeSide in
    let rs = g.R.RingSide in
    let n = c.args.side in
    let i = c.loop-path.invariant in
    let e = c.in_ok-give_up_path.ensures in
    let side = rs.side c.args.ring.now in
    let here = rs.side c.loop-path.ring in
    let chosen = c.args.chosen.now in
    let k = c.loop-path.path-index in
    let within = c.loop-path-test.true in
    let at = path-next k within in
    let low : 1 ≤ k + 1 = omega arith in
    let high : k + 1 < 5 = omega (arith, within) in
    let on = ap (is_chosen chosen) (sym at) ∙ c.if-not-chosen-path.false in
    record {
      paths = refl;
      turning = e.turning;
      kept = kept-both side.net n _ _ _ i.kept (kept-same _ _ n _ _ (sym i.step.node.same) e.kept);
      less = less-both side here n (rs.known c.args.ring.now) (rs.known c.loop-path.ring)
          (rs.known c.give_up_path.new.ring) i.step.node.same i.less e.less;
      left = left-at n side here (rs.known c.args.ring.now) (rs.known c.loop-path.ring)
          (rs.known c.give_up_path.new.ring) i.step.node.same i.left e.left;
      given = given-more bs.alone rs.alone side.net n chosen (k + 1) _ _ _ _ _ _ low high on i.part
          i.given
          (subst (λ (p : ℕ). PartOf bs.alone rs.alone (is_by n) n
          (InOrder (EndGivesUp n) (due_calls side.net n (rs.known c.loop-path.ring) (p ∷ [])))
          (bs.known c.loop-path.bridge) (bs.known c.give_up_path.new.bridge)
          (rs.known c.loop-path.ring) (rs.known c.give_up_path.new.ring)) at
          (net-as (λ (m : NetPlan). PartOf bs.alone rs.alone (is_by n) n
          (InOrder (EndGivesUp n)
          (due_calls m n (rs.known c.loop-path.ring) (get_or network_paths k 0 ∷ [])))
          (bs.known c.loop-path.bridge) (bs.known c.give_up_path.new.bridge)
          (rs.known c.loop-path.ring) (rs.known c.give_up_path.new.ring)) _ _ i.step.node.same
          e.given));
      part = where-more side.net n chosen (k + 1) _ _ _ low on i.part
          (subst (λ (p : ℕ). GivesOnPath side.net n p (rs.known c.loop-path.ring)
          (rs.known c.give_up_path.new.ring)) at
          (net-as (λ (m : NetPlan). GivesOnPath m n (get_or network_paths k 0)
          (rs.known c.loop-path.ring) (rs.known c.give_up_path.new.ring)) _ _ i.step.node.same
          e.part));
      step = end-then bs rs n i.step e.step;
    }

pub loop-path-init : goal.loop-path-init
loop-path-init g c =
    let rs = g.R.RingSide in
    record {
      paths = refl;
      turning = c.requires.turning;
      kept = kept-none (rs.side c.args.ring.now) _ c.args.side c.requires.turning.own_turn;
      less = omega arith;
      left = λ gone. gone;
      given = part-none g.B.BridgeSide.alone rs.alone (is_by c.args.side) c.args.side _ _ _
          (refl, refl);
      part = where-none (rs.side c.args.ring.now).net c.args.side c.args.chosen.now
          (rs.known c.args.ring.now);
      step = end-rest g.B.BridgeSide rs c.args.side c.args.bridge.now c.args.ring.now
          c.requires.turning.legal c.requires.turning.own_turn.on.legal;
    }

pub loop-path-preserved-then-not-chosen-path : goal.loop-path-preserved-then-not-chosen-path
loop-path-preserved-then-not-chosen-path g c =
    let i = c.loop-path.invariant in
    let net = (g.R.RingSide.side c.args.ring.now).net in
    let n = c.args.side in
    let chosen = c.args.chosen.now in
    let k = c.loop-path.path-index in
    let within = c.loop-path-test.true in
    let off = ap (is_chosen chosen) (sym (path-next k within)) ∙ c.if-not-chosen-path.true in
    record {
      paths = refl;
      turning = i.turning;
      kept = i.kept;
      less = i.less;
      left = i.left;
      given = given-skip g.B.BridgeSide.alone g.R.RingSide.alone net n chosen (k + 1) _ _ _ _
          (omega arith) (omega (arith, within)) off i.given;
      part = where-skip net n chosen (k + 1) _ _ off i.part;
      step = i.step;
    }

pub returns-in_err-give_up_path-clause-step : goal.returns-in_err-give_up_path-clause-step
returns-in_err-give_up_path-clause-step g c =
    end-then g.B.BridgeSide g.R.RingSide c.args.side c.loop-path.invariant.step
    c.in_err-give_up_path.ensures.step
