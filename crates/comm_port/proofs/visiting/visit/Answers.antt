use Rattle.std.proofs.Common.{◌∙◌, [], refl, sym, subst, List}
use Rattle.plant_types.specs.declared.net.NetPlan.{NetPlan}
use Rattle.controller_core.specs.declared.call.Call.{Call}
use Rattle.tied_lists.specs.Waits.{HasLeft}
use Rattle.comm_port.specs.Giving.{IsAtRest}
use Rattle.comm_port.specs.HoldTurn.{IsEnded}
use Rattle.comm_port.specs.Making.{Owing, calls_from}
use Rattle.joint_history.specs.Reading.{is_ours}
use Rattle.comm_port.proofs.Collecting.{due-next, collects-none, collects-all}
use Rattle.comm_port.proofs.Made.{ram-still, collected-lead}
use Rattle.comm_port.proofs.Parts.{net-as, part-none}
use Rattle.comm_port.proofs.Steps.{both-ram, both-rest, both-then, ram-asked, ram-called}
use Rattle.comm_port.proofs.Steps.{ram-then}
use Rattle.comm_port.proofs.visiting.visit.Goals as goal

pub returns-then-not-has_started-clause-turning : goal.returns-then-not-has_started-clause-turning
returns-then-not-has_started-clause-turning g c =
    let o = c.if-not-has_started.ensures in
    ram-still g.M.RamSide.alone c.args.node [] _ _ _ _ _ _ c.args.waiting.now o.same o.went.list
    c.requires.turning

pub returns-then-not-has_started-clause-visited : goal.returns-then-not-has_started-clause-visited
returns-then-not-has_started-clause-visited g c =
    let o = c.if-not-has_started.ensures in
    record {
      calls = collects-none (IsEnded c.args.node) g.M.RamSide.alone g.R.RingSide.alone _ c.args.node
          _ _ _ o.went.list (sym o.answer);
      as_before = refl;
    }

pub loop-at-init : goal.loop-at-init
loop-at-init g c =
    let asked = c.if-not-has_started.ensures in
    let t = ram-still g.M.RamSide.alone c.args.node [] _ _ _ _ _ _ c.args.waiting.now asked.same
    asked.went.list c.requires.turning in
    let o = c.in_ok-calls.ensures in
    record {
      owing = subst (λ (l : List Call). Owing c.args.node (calls_from l 0)
          (g.M.RamSide.side c.collect.new.self)
          (g.M.RamSide.known c.collect.new.self) (g.R.RingSide.side c.args.ring.now)
          (g.R.RingSide.known c.args.ring.now)
          c.args.waiting.now) (sym c.as_slice-calls.ensures)
          (collected-lead g.M.RamSide.alone c.args.node c.in_ok-calls.calls _ _ _ _ _ _
          c.args.waiting.now o.same o.went.list o.fresh t);
      gone = c.requires.gone;
      rest = c.requires.rest;
      ended = part-none g.M.RamSide.alone g.R.RingSide.alone is_ours c.args.node _ _ _ (refl, refl);
      as_before = refl;
      step = both-rest g.M.RamSide g.R.RingSide c.args.node c.collect.new.self c.args.ring.now
          c.requires.turning.own_turn.on.legal;
    }

pub end_call-requires-clause-gone : goal.end_call-requires-clause-gone
end_call-requires-clause-gone g c =
    let i = c.loop-at.invariant in
    net-as (λ (m : NetPlan). HasLeft m (g.R.RingSide.known c.loop-at.ring) c.args.node) _ _
    (sym i.step.node.same) i.gone

pub end_call-requires-clause-rest : goal.end_call-requires-clause-rest
end_call-requires-clause-rest g c =
    let i = c.loop-at.invariant in
    net-as (λ (m : NetPlan). IsAtRest m c.args.node (g.R.RingSide.known c.loop-at.ring)) _ _
    (sym i.step.node.same) i.rest

pub loop-at-preserved : goal.loop-at-preserved
loop-at-preserved g c =
    let i = c.loop-at.invariant in
    let e = c.in_ok-end_call.ensures in
    let n = c.args.node in
    let last = g.R.RingSide.known c.end_call.new.ring in
    record {
      owing = e.owing;
      gone = net-as (λ (m : NetPlan). HasLeft m last n) _ _ i.step.node.same e.gone;
      rest = net-as (λ (m : NetPlan). IsAtRest m n last) _ _ i.step.node.same e.rest;
      ended = due-next (IsEnded n) g.M.RamSide.alone g.R.RingSide.alone n _ c.loop-at.at _ _ _ _ _ _
          c.loop-at-test.true i.ended e.ended;
      as_before = e.as_before ∙ i.as_before;
      step = both-then g.M.RamSide g.R.RingSide n i.step e.step;
    }

pub returns-clause-rest : goal.returns-clause-rest
returns-clause-rest g c = c.loop-at.invariant.rest

pub returns-clause-visited : goal.returns-clause-visited
returns-clause-visited g c =
    let o = c.if-not-has_started.ensures in
    let i = c.loop-at.invariant in
    record {
      calls = collects-all (IsEnded c.args.node) g.M.RamSide.alone g.R.RingSide.alone _ c.args.node
          _ _ c.loop-at.at _ _ _ _ _ _ o.went.list (sym o.answer)
          c.in_ok-calls.ensures.went.list c.as_slice-calls.ensures c.loop-at-test.false i.ended;
      as_before = i.as_before;
    }

pub returns-then-not-has_started-clause-step : goal.returns-then-not-has_started-clause-step
returns-then-not-has_started-clause-step g c =
    let asked = c.if-not-has_started.ensures in
    both-ram g.M.RamSide g.R.RingSide c.args.node c.args.ring.now
    c.requires.turning.own_turn.on.legal
    (ram-asked g.M.RamSide asked.same asked.legal asked.went)

pub returns-in_err-calls-clause-step : goal.returns-in_err-calls-clause-step
returns-in_err-calls-clause-step g c =
    let asked = c.if-not-has_started.ensures in
    let o = c.in_err-calls.ensures in
    let ram = ram-then g.M.RamSide (ram-asked g.M.RamSide asked.same asked.legal asked.went)
    (ram-called g.M.RamSide o.same o.legal o.went refl) in
    both-ram g.M.RamSide g.R.RingSide c.args.node c.args.ring.now
    c.requires.turning.own_turn.on.legal ram

pub returns-in_err-end_call-clause-step : goal.returns-in_err-end_call-clause-step
returns-in_err-end_call-clause-step g c =
    let asked = c.if-not-has_started.ensures in
    let o = c.in_ok-calls.ensures in
    let ram = ram-then g.M.RamSide (ram-asked g.M.RamSide asked.same asked.legal asked.went)
    (ram-called g.M.RamSide o.same o.legal o.went refl) in
    let first = both-ram g.M.RamSide g.R.RingSide c.args.node c.args.ring.now
    c.requires.turning.own_turn.on.legal ram in
    both-then g.M.RamSide g.R.RingSide c.args.node first
    (both-then g.M.RamSide g.R.RingSide c.args.node c.loop-at.invariant.step
    c.in_err-end_call.ensures.step)

pub returns-clause-step : goal.returns-clause-step
returns-clause-step g c =
    let asked = c.if-not-has_started.ensures in
    let o = c.in_ok-calls.ensures in
    let ram = ram-then g.M.RamSide (ram-asked g.M.RamSide asked.same asked.legal asked.went)
    (ram-called g.M.RamSide o.same o.legal o.went refl) in
    let first = both-ram g.M.RamSide g.R.RingSide c.args.node c.args.ring.now
    c.requires.turning.own_turn.on.legal ram in
    both-then g.M.RamSide g.R.RingSide c.args.node first c.loop-at.invariant.step
