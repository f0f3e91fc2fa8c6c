use Rattle.panel_session.proofs.ServedAll.{HasServed}
use Rattle.panel_session.proofs.session.serve_all.Given as goal

abbrev pub invariant-loop-frame : goal.invariant-loop-frame
invariant-loop-frame l =
    HasServed l.fn.bench l.bench l.fn.text.items l.text.items l.asked l.frame-index
