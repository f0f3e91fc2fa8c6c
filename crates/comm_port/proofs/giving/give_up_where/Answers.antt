use Rattle.std.proofs.Common.{◌∙◌, [], ◌∷◌, ap, get_or, refl, subst}
use Rattle.mstr_block.specs.Table.{network_paths}
use Rattle.tied_lists.proofs.Growth.{adds_none}
use Rattle.plant_types.specs.declared.net.NetPlan.{NetPlan}
use Rattle.comm_port.proofs.Parts.{net-as, part-none}
use Rattle.std.proofs.Common.{◌+◌, ◌<◌, ◌≤◌, ℕ, arith}
use Rattle.comm_port.specs.Giving.{due_calls, is_chosen, GivesOnPath}
use Rattle.comm_port.proofs.Made.{kept-none}
use Rattle.comm_port.specs.HoldTurn.{IsGivenUp}
use Rattle.comm_port.specs.Parts.{InOrder, PartOf}
use Rattle.comm_port.proofs.GivesUp.{where-none, where-skip, where-more, given-skip, given-more}
use Rattle.comm_port.proofs.GivesUp.{path-next}
use Rattle.std.proofs.Common.{sym}
use Rattle.tied_lists.specs.Own.{is_of}
use Rattle.tied_lists.proofs.Growth.{adds-both}
use Rattle.joint_history.specs.Reading.{is_ours}
use Rattle.comm_port.specs.Order.{IsGivingUp}
use Rattle.comm_port.proofs.RingTurns.{kept-both, kept-same}
use Rattle.comm_port.proofs.Given.{less-both}
use Rattle.comm_port.proofs.Steps.{both-rest, both-then}
use Rattle.comm_port.proofs.giving.give_up_where.Goals as goal

pub loop-path-preserved : goal.loop-path-preserved
loop-path-preserved g c =
    let n = c.args.node in
    let i = c.loop-path.invariant in
    let e = c.in_ok-give_up_path.ensures in
    let side = g.R.RingSide.side c.args.ring.now in
    let chosen = c.args.chosen.now in
    let k = c.loop-path.path-index in
    let within = c.loop-path-test.true in
    let at = path-next k within in
    let low : 1 ≤ k + 1 = omega arith in
    let high : k + 1 < 5 = omega (arith, within) in
    let on = ap (is_chosen chosen) (sym at) ∙ c.if-not-chosen-path.false in
    let known = g.M.RamSide.known in
    let ring = g.R.RingSide.known in
    record {
      paths = refl;
      turning = e.turning;
      kept = kept-both side.net n _ _ _ i.kept (kept-same _ _ n _ _ (sym i.step.node.same) e.kept);
      less = less-both side (g.R.RingSide.side c.loop-path.ring) n (ring c.args.ring.now)
          (ring c.loop-path.ring) (ring c.give_up_path.new.ring) i.step.node.same i.less e.less;
      ring_adds = adds-both g.R.RingSide.alone (is_of n) IsGivingUp _ _ _ i.ring_adds e.ring_adds;
      given = given-more g.M.RamSide.alone g.R.RingSide.alone side.net n chosen (k + 1) _ _ _ _
          _ _ low high on i.part i.given
          (subst (λ (p : ℕ). PartOf g.M.RamSide.alone g.R.RingSide.alone is_ours n
          (InOrder IsGivenUp (due_calls side.net n (ring c.loop-path.ring) (p ∷ [])))
          (known c.loop-path.ram) (known c.give_up_path.new.ram) (ring c.loop-path.ring)
          (ring c.give_up_path.new.ring)) at
          (net-as (λ (m : NetPlan). PartOf g.M.RamSide.alone g.R.RingSide.alone is_ours n
          (InOrder IsGivenUp
          (due_calls m n (ring c.loop-path.ring) (get_or network_paths k 0 ∷ [])))
          (known c.loop-path.ram) (known c.give_up_path.new.ram) (ring c.loop-path.ring)
          (ring c.give_up_path.new.ring)) _ _ i.step.node.same e.given));
      part = where-more side.net n chosen (k + 1) _ _ _ low on i.part
          (subst (λ (p : ℕ). GivesOnPath side.net n p (ring c.loop-path.ring)
          (ring c.give_up_path.new.ring)) at
          (net-as (λ (m : NetPlan). GivesOnPath m n (get_or network_paths k 0)
          (ring c.loop-path.ring) (ring c.give_up_path.new.ring)) _ _ i.step.node.same e.part));
      step = both-then g.M.RamSide g.R.RingSide n i.step e.step;
    }

pub loop-path-init : goal.loop-path-init
loop-path-init g c = record {
  paths = refl;
  turning = c.requires.turning;
  kept = kept-none (g.R.RingSide.side c.args.ring.now) _ c.args.node c.requires.turning.own_turn;
  less = omega arith;
  ring_adds = adds_none g.R.RingSide.alone (is_of c.args.node) IsGivingUp _;
  given = part-none g.M.RamSide.alone g.R.RingSide.alone is_ours c.args.node _ _ _ (refl, refl);
  part = where-none (g.R.RingSide.side c.args.ring.now).net c.args.node c.args.chosen.now
      (g.R.RingSide.known c.args.ring.now);
  step = both-rest g.M.RamSide g.R.RingSide c.args.node c.args.ram.now c.args.ring.now
      c.requires.turning.own_turn.on.legal;
}

pub loop-path-preserved-then-not-chosen-path : goal.loop-path-preserved-then-not-chosen-path
loop-path-preserved-then-not-chosen-path g c =
    let i = c.loop-path.invariant in
    let net = (g.R.RingSide.side c.args.ring.now).net in
    let n = c.args.node in
    let chosen = c.args.chosen.now in
    let k = c.loop-path.path-index in
    let within = c.loop-path-test.true in
    let off = ap (is_chosen chosen) (sym (path-next k within)) ∙ c.if-not-chosen-path.true in
    record {
      paths = refl;
      turning = i.turning;
      kept = i.kept;
      less = i.less;
      ring_adds = i.ring_adds;
      given = given-skip g.M.RamSide.alone g.R.RingSide.alone net n chosen (k + 1) _ _ _ _
          (omega arith) (omega (arith, within)) off i.given;
      part = where-skip net n chosen (k + 1) _ _ off i.part;
      step = i.step;
    }

pub returns-in_err-give_up_path-clause-step : goal.returns-in_err-give_up_path-clause-step
returns-in_err-give_up_path-clause-step g c =
    both-then g.M.RamSide g.R.RingSide c.args.node c.loop-path.invariant.step
    c.in_err-give_up_path.ensures.step
