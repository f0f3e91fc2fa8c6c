use Rattle.std.proofs.Common.{sym, ◌<◌}
use Rattle.plant_types.specs.declared.net.NetPlan.{NetPlan}
use Rattle.comm_port.proofs.Parts.{net-as}
use Rattle.comm_port.proofs.HostAsks.{holds-at}
use Rattle.comm_port.proofs.HostServes.{grew_not}
use Rattle.comm_port.proofs.HostSends.{new-at, sends-at, sends-both, sends-none, sends-out-at}
use Rattle.comm_port.proofs.HostSends.{sent-out}
use Rattle.comm_port.proofs.HostTurning.{turning-side}
use Rattle.comm_port.proofs.Steps.{host-ring, host-then, ring-rest}
use Rattle.comm_port.proofs.host_worker.send_all.Goals as goal

pub loop-init : goal.loop-init
loop-init g c = record {
  turning = c.requires.turning;
  holds = c.requires.holds;
  wait = c.requires.wait;
  new_calls = c.requires.new_calls;
  sends = sends-none g.R.RingSide.alone _ c.args.node _ _ _ _
      (grew_not g.R.RingSide.alone c.args.node _);
  step = host-ring g.R.RingSide c.args.node c.args.host.now c.requires.turning.legal
      (ring-rest g.R.RingSide c.args.node c.args.ring.now c.requires.turning.own_turn.on.legal);
}

pub loop-preserved : goal.loop-preserved
loop-preserved g c =
    let i = c.loop.invariant in
    let s = c.in_ok-send_one.ensures in
    let n = c.args.node in
    let here = g.R.RingSide.side c.loop.ring in
    let there = g.R.RingSide.side c.send_one.new.ring in
    record {
      turning = turning-side n _ _ _ _ s.step.node.same s.turning;
      holds = holds-at n _ _ _ s.step.node.same s.holds;
      wait = net-as (λ (m : NetPlan). 0 < m.answer) there here (sym s.step.node.same) i.wait;
      new_calls = new-at n _ (g.R.RingSide.known c.send_one.new.ring) here there s.step.node.same
          s.new_calls;
      sends = sends-at g.R.RingSide.alone n _ _ _ _ _ here there s.step.node.same
          (sends-both g.R.RingSide.alone here.net n _ _ _ _ _ _ _ i.sends s.sends);
      step = host-then g.R.RingSide n i.step s.step;
    }

pub returns-clause-sends : goal.returns-clause-sends
returns-clause-sends g c =
    let i = c.loop.invariant in
    let s = c.in_ok-send_one.ensures in
    let n = c.args.node in
    let here = g.R.RingSide.side c.loop.ring in
    let before = g.R.RingSide.side c.args.ring.now in
    sends-out-at g.R.RingSide.alone n _ _ _ _ _ here before (sym i.step.node.same)
    (sent-out g.R.RingSide.alone here.net n _ _ _ _ _ s.turning.own_turn.on
    (sends-both g.R.RingSide.alone here.net n _ _ _ _ _ _ _ i.sends s.sends)
    (s.empty c.if-branch.false) s.new_calls)

pub returns-in_err-send_one-clause-step : goal.returns-in_err-send_one-clause-step
returns-in_err-send_one-clause-step g c =
    host-then g.R.RingSide c.args.node c.loop.invariant.step c.in_err-send_one.ensures.step

pub returns-clause-step : goal.returns-clause-step
returns-clause-step g c =
    host-then g.R.RingSide c.args.node c.loop.invariant.step c.in_ok-send_one.ensures.step
