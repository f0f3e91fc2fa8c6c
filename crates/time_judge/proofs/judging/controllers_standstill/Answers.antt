use Rattle.std.proofs.Common.{List, map, subst, arith}
use Rattle.controller_core.specs.declared.entry.Entry.{Entry}
use Rattle.entry_causes.specs.Causes.{ByController}
use Rattle.entry_causes.specs.Joint.{controller_log}
use Rattle.time_judge.specs.Judging.{StandsStill}
use Rattle.time_judge.proofs.First.{first-here}
use Rattle.time_judge.proofs.judging.controllers_standstill.Goals as goal

pub returns-in-Some : goal.returns-in-Some
returns-in-Some c =
    let here = rw c.in-Some.is at c.in_ok-at.ensures in
    first-here controller_log c.args.ring.now c.args.logs.now c.loop-log.log-index
    c.log-item.result c.in-Some.at (omega arith) c.log-item.is c.loop-log.invariant
    (subst (λ (l : List Entry). StandsStill c.args.ring.now
    (record { node = c.log-item.result.node; entries = map ByController l }) c.in-Some.at)
    c.as_slice-entries.ensures here)
