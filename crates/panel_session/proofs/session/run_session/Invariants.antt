use Rattle.std.proofs.Common.{length}
use Rattle.controller_core.specs.Controller.{fixed_with, left_of}
use Rattle.panel_session.proofs.Sessions.{IsInSession}
use Rattle.panel_session.proofs.session.run_session.Given as goal

abbrev pub invariant-loop-text : goal.invariant-loop-text
invariant-loop-text l =
    IsInSession (fixed_with l.plan l.scan_time l.watchdog l.scans) l.stream l.bench l.left
    l.text.items

abbrev pub decreases-loop-text : goal.decreases-loop-text
decreases-loop-text l = length (left_of l.bench.fixed l.bench.history)
