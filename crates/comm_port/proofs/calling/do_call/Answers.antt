use Rattle.std.proofs.Common.{refl}
use Rattle.ring_core.specs.declared.entry.RingEntry.TheVariants.{Local}
use Rattle.comm_port.proofs.RingTurns.{own-moved, own-on, kept-local}
use Rattle.comm_port.proofs.Steps.{both-ring, ram-called}
use Rattle.comm_port.proofs.calling.do_call.Goals as goal

pub returns-clause-kept : goal.returns-clause-kept
returns-clause-kept g c =
    let o = c.in_ok-outcome.ensures in
    let e = Local c.args.node c.args.id c.args.op c.in_ok-outcome.outcome in
    kept-local _ c.args.node _ _ c.args.id c.args.op _
    (own-on _ g.R.RingSide.alone c.args.node _ e _ c.requires.turn o.step.stands.legal o.went)
    (own-moved _ g.R.RingSide.alone c.args.node _ e _ refl c.requires.turn o.step.stands.legal
    o.went)

pub returns-in_err-outcome-clause-step : goal.returns-in_err-outcome-clause-step
returns-in_err-outcome-clause-step g c =
    both-ring g.M.RamSide g.R.RingSide c.args.node c.args.ram.now c.in_err-outcome.ensures.step

pub returns-in_err-finish-clause-step : goal.returns-in_err-finish-clause-step
returns-in_err-finish-clause-step g c =
    let f = c.in_err-finish.ensures in
    record {
      station = ram-called g.M.RamSide f.same f.legal f.went refl;
      node = c.in_ok-outcome.ensures.step;
    }

pub returns-clause-step : goal.returns-clause-step
returns-clause-step g c =
    let f = c.in_ok-finish.ensures in
    record {
      station = ram-called g.M.RamSide f.same f.legal f.went refl;
      node = c.in_ok-outcome.ensures.step;
    }
