use Rattle.comm_port.specs.HoldTurn.{IsMade}
use Rattle.comm_port.proofs.Parts.{part-none}
use Rattle.comm_port.proofs.Collecting.{due-next, collects-none, collects-all}
use Rattle.comm_port.proofs.RingTurns.{kept-both, kept-same}
use Rattle.tied_lists.specs.Own.{is_of}
use Rattle.tied_lists.proofs.Growth.{adds_none, adds-both}
use Rattle.joint_history.specs.Reading.{is_ours}
use Rattle.comm_port.specs.Order.{IsCalling}
use Rattle.std.proofs.Common.{[], refl, sym, subst, List}
use Rattle.controller_core.specs.declared.call.Call.{Call}
use Rattle.comm_port.specs.Making.{Owing, calls_from}
use Rattle.comm_port.proofs.Made.{ram-still, collected-lead, kept-none}
use Rattle.comm_port.proofs.Steps.{both-ram, both-rest, both-then, ram-asked, ram-called}
use Rattle.comm_port.proofs.Steps.{ram-then}
use Rattle.comm_port.proofs.calling.make_calls.Goals as goal

pub returns-then-not-has_started-clause-turning : goal.returns-then-not-has_started-clause-turning
returns-then-not-has_started-clause-turning g c =
    let o = c.if-not-has_started.ensures in
    ram-still g.M.RamSide.alone c.args.node [] _ _ _ _ _ _ c.args.waiting.now o.same o.went.list
    c.requires.turning

pub loop-at-init : goal.loop-at-init
loop-at-init g c =
    let asked = c.if-not-has_started.ensures in
    let t = ram-still g.M.RamSide.alone c.args.node [] _ _ _ _ _ _ c.args.waiting.now asked.same
    asked.went.list c.requires.turning in
    let o = c.in_ok-calls.ensures in
    record {
      owing = subst (λ (l : List Call). Owing c.args.node (calls_from l 0)
          (g.M.RamSide.side c.collect.new.self)
          (g.M.RamSide.known c.collect.new.self) (g.R.RingSide.side c.args.ring.now)
          (g.R.RingSide.known c.args.ring.now)
          c.args.waiting.now) (sym c.as_slice-calls.ensures)
          (collected-lead g.M.RamSide.alone c.args.node c.in_ok-calls.calls _ _ _ _ _ _
          c.args.waiting.now o.same o.went.list o.fresh t);
      kept = kept-none (g.R.RingSide.side c.args.ring.now) _ c.args.node
          c.requires.turning.own_turn;
      ring_adds = adds_none g.R.RingSide.alone (is_of c.args.node) (IsCalling c.args.node) _;
      made = part-none g.M.RamSide.alone g.R.RingSide.alone is_ours c.args.node _ _ _ (refl, refl);
      step = both-rest g.M.RamSide g.R.RingSide c.args.node c.collect.new.self c.args.ring.now
          c.requires.turning.own_turn.on.legal;
    }

pub returns-then-not-has_started-clause-ring_adds :
    goal.returns-then-not-has_started-clause-ring_adds
returns-then-not-has_started-clause-ring_adds g c = adds_none g.R.RingSide.alone (is_of c.args.node)
    (IsCalling c.args.node) _

pub loop-at-preserved : goal.loop-at-preserved
loop-at-preserved g c =
    let n = c.args.node in
    let i = c.loop-at.invariant in
    let e = c.in_ok-make_call.ensures in
    record {
      owing = e.owing;
      kept = kept-both (g.R.RingSide.side c.args.ring.now).net n _ _ _ i.kept
          (kept-same _ _ n _ _ (sym i.step.node.same) e.kept);
      ring_adds = adds-both g.R.RingSide.alone (is_of n) (IsCalling n) _ _ _ i.ring_adds
          e.ring_adds;
      made = due-next (IsMade n) g.M.RamSide.alone g.R.RingSide.alone n _ c.loop-at.at _ _ _ _ _ _
          c.loop-at-test.true i.made e.made;
      step = both-then g.M.RamSide g.R.RingSide n i.step e.step;
    }

pub returns-then-not-has_started-clause-made : goal.returns-then-not-has_started-clause-made
returns-then-not-has_started-clause-made g c =
    let o = c.if-not-has_started.ensures in
    collects-none (IsMade c.args.node) g.M.RamSide.alone g.R.RingSide.alone _ c.args.node _ _ _
    o.went.list (sym o.answer)

pub returns-clause-made : goal.returns-clause-made
returns-clause-made g c =
    let o = c.if-not-has_started.ensures in
    collects-all (IsMade c.args.node) g.M.RamSide.alone g.R.RingSide.alone _ c.args.node _ _
    c.loop-at.at _ _ _ _ _ _ o.went.list (sym o.answer)
    c.in_ok-calls.ensures.went.list c.as_slice-calls.ensures c.loop-at-test.false
    c.loop-at.invariant.made

pub returns-then-not-has_started-clause-step : goal.returns-then-not-has_started-clause-step
returns-then-not-has_started-clause-step g c =
    let asked = c.if-not-has_started.ensures in
    both-ram g.M.RamSide g.R.RingSide c.args.node c.args.ring.now
    c.requires.turning.own_turn.on.legal
    (ram-asked g.M.RamSide asked.same asked.legal asked.went)

pub returns-in_err-calls-clause-step : goal.returns-in_err-calls-clause-step
returns-in_err-calls-clause-step g c =
    let asked = c.if-not-has_started.ensures in
    let o = c.in_err-calls.ensures in
    let ram = ram-then g.M.RamSide (ram-asked g.M.RamSide asked.same asked.legal asked.went)
    (ram-called g.M.RamSide o.same o.legal o.went refl) in
    both-ram g.M.RamSide g.R.RingSide c.args.node c.args.ring.now
    c.requires.turning.own_turn.on.legal ram

pub returns-in_err-make_call-clause-step : goal.returns-in_err-make_call-clause-step
returns-in_err-make_call-clause-step g c =
    let asked = c.if-not-has_started.ensures in
    let o = c.in_ok-calls.ensures in
    let ram = ram-then g.M.RamSide (ram-asked g.M.RamSide asked.same asked.legal asked.went)
    (ram-called g.M.RamSide o.same o.legal o.went refl) in
    let first = both-ram g.M.RamSide g.R.RingSide c.args.node c.args.ring.now
    c.requires.turning.own_turn.on.legal ram in
    both-then g.M.RamSide g.R.RingSide c.args.node first
    (both-then g.M.RamSide g.R.RingSide c.args.node c.loop-at.invariant.step
    c.in_err-make_call.ensures.step)

pub returns-clause-step : goal.returns-clause-step
returns-clause-step g c =
    let asked = c.if-not-has_started.ensures in
    let o = c.in_ok-calls.ensures in
    let ram = ram-then g.M.RamSide (ram-asked g.M.RamSide asked.same asked.legal asked.went)
    (ram-called g.M.RamSide o.same o.legal o.went refl) in
    let first = both-ram g.M.RamSide g.R.RingSide c.args.node c.args.ring.now
    c.requires.turning.own_turn.on.legal ram in
    both-then g.M.RamSide g.R.RingSide c.args.node first c.loop-at.invariant.step
