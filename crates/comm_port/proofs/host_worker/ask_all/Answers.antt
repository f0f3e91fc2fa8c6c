use Rattle.std.proofs.Common.{sym, ◌∙◌}
use Rattle.comm_port.proofs.HostAsks.{holds-at}
use Rattle.comm_port.proofs.HostAsked.{asked-all-at, asked-at, asked-end, asked-next, asked-none}
use Rattle.comm_port.proofs.HostAsked.{asked-some, asked-start}
use Rattle.comm_port.proofs.HostTurning.{turning-side}
use Rattle.comm_port.proofs.Steps.{host-ring, host-then, ring-rest}
use Rattle.comm_port.proofs.host_worker.ask_all.Goals as goal

pub loop-path-init : goal.loop-path-init
loop-path-init g c = record {
  turning = c.requires.turning;
  holds = c.requires.holds;
  asked = asked-start g.R.RingSide.alone _ c.args.node _ c.args.hold _ _;
  step = host-ring g.R.RingSide c.args.node c.args.host.now c.requires.turning.legal
      (ring-rest g.R.RingSide c.args.node c.args.ring.now c.requires.turning.own_turn.on.legal);
}

pub loop-path-smaller : goal.loop-path-smaller
loop-path-smaller g c =
    (asked-some g.R.RingSide.alone _ c.args.node c.args.hold _ _ _ _ _ c.in-Some.path c.in-Some.is
    c.in_ok-path.ensures.asked).fewer

pub loop-path-preserved : goal.loop-path-preserved
loop-path-preserved g c =
    let i = c.loop-path.invariant in
    let s = c.in_ok-path.ensures in
    let once = asked-some g.R.RingSide.alone _ c.args.node c.args.hold _ _ _ _ _ c.in-Some.path
    c.in-Some.is s.asked in
    record {
      turning = turning-side c.args.node _ _ _ _ s.step.node.same s.turning;
      holds = holds-at c.args.node _ _ _ s.step.node.same (s.kept.holds i.holds);
      asked = asked-at g.R.RingSide.alone c.args.node _ c.args.hold _ _ _ _ _ _ _ s.step.node.same
          (asked-next g.R.RingSide.alone _ c.args.node _ c.args.hold c.in-Some.path _
          c.loop-path.host c.ask_next.new.host _ _ _ _
          c.from.result c.from.ensures i.step.plan i.asked once);
      step = host-then g.R.RingSide c.args.node i.step s.step;
    }

pub returns-clause-turning : goal.returns-clause-turning
returns-clause-turning g c =
    let i = c.loop-path.invariant in
    turning-side c.args.node _ _ _ _ (sym i.step.node.same) c.in_ok-path.ensures.turning

pub returns-clause-holds : goal.returns-clause-holds
returns-clause-holds g c =
    let i = c.loop-path.invariant in
    holds-at c.args.node _ _ _ (sym i.step.node.same) (c.in_ok-path.ensures.kept.holds i.holds)

pub returns-clause-asked : goal.returns-clause-asked
returns-clause-asked g c =
    let i = c.loop-path.invariant in
    let s = c.in_ok-path.ensures in
    let none = asked-none g.R.RingSide.alone _ c.args.node c.args.hold _ _ _ _ _ c.in_default.is
    s.asked in
    asked-all-at g.R.RingSide.alone c.args.node _ c.args.hold _ _ _ _ _ _ _ (sym i.step.node.same)
    (asked-end g.R.RingSide.alone _ c.args.node _ c.args.hold _ c.loop-path.host c.ask_next.new.host
    _ _ _ _ (s.step.plan ∙ i.step.plan) i.asked none)

pub returns-in_err-path-clause-step : goal.returns-in_err-path-clause-step
returns-in_err-path-clause-step g c =
    host-then g.R.RingSide c.args.node c.loop-path.invariant.step c.in_err-path.ensures.step

pub returns-clause-step : goal.returns-clause-step
returns-clause-step g c =
    host-then g.R.RingSide c.args.node c.loop-path.invariant.step c.in_ok-path.ensures.step
