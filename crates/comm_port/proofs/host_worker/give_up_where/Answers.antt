use Rattle.std.proofs.Common.{refl, sym, ap, get_or, false}
use Rattle.comm_port.proofs.HostGives.{gives-at, gives-next, left-at, less-at}
use Rattle.comm_port.proofs.HostTurning.{turning-side}
use Rattle.comm_port.proofs.RingTurns.{kept-both, kept-same}
use Rattle.std.proofs.Common.{rules}
use Rattle.comm_port.proofs.Steps.{host-ring, host-then, ring-rest}
use Rattle.comm_port.proofs.host_worker.give_up_where.Goals as goal

pub loop-path-preserved : goal.loop-path-preserved
loop-path-preserved g c =
    let i = c.loop-path.invariant in
    let s = c.in_ok-give_up_if.ensures in
    let n = c.args.node in
    let known = g.R.RingSide.known in
    let before = g.R.RingSide.side c.args.ring.now in
    let here = g.R.RingSide.side c.loop-path.ring in
    let turning = turning-side n c.give_up_if.new.host here before
    (g.R.RingSide.known c.give_up_if.new.ring) (sym i.step.node.same) s.turning in
    record {
      paths = refl;
      turning = turning;
      kept = kept-both before.net n _ _ _ i.kept
          (kept-same before here n _ _ (sym i.step.node.same) s.kept);
      less = less-at n before here (known c.args.ring.now) (known c.loop-path.ring)
          (known c.give_up_if.new.ring) i.step.node.same i.less s.less;
      left = left-at n before here (known c.args.ring.now) (known c.loop-path.ring)
          (known c.give_up_if.new.ring) i.step.node.same i.left s.left;
      gives_up = gives-next g.R.RingSide.alone before.net n c.loop-path.path-index _ c.args.which _
          _ _ _ _ _ _ c.loop-path-test.true refl
          (ap (λ k. get_or c.args.which k false) c.from.ensures) i.turning.own_turn.on
          turning.own_turn.on c.requires.turning.own_turn.free i.gives_up
          (gives-at g.R.RingSide.alone n _ _ _ _ _ here before (sym i.step.node.same) s.gives_up);
      step = host-then g.R.RingSide n i.step s.step;
    }

pub returns-in_err-give_up_if-clause-step : goal.returns-in_err-give_up_if-clause-step
returns-in_err-give_up_if-clause-step g c =
    host-then g.R.RingSide c.args.node c.loop-path.invariant.step c.in_err-give_up_if.ensures.step

pub loop-path-init : goal.loop-path-init
loop-path-init g c = record {
  paths = search rules;
  turning = c.requires.turning;
  kept = search rules;
  less = search rules;
  left = λ l. l;
  gives_up = search rules;
  step = host-ring g.R.RingSide c.args.node c.args.host.now c.requires.turning.legal
      (ring-rest g.R.RingSide c.args.node c.args.ring.now c.requires.turning.own_turn.on.legal);
}
