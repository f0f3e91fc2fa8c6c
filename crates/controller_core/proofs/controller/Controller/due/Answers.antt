use Rattle.std.proofs.Common.{sym, arith}
use Rattle.controller_core.proofs.Keeping.{timely_enough}
use Rattle.controller_core.proofs.Stepping.{due_is}
use Rattle.controller_core.proofs.controller.Controller.due.Goals as goal

-- scans are few enough to be numbered
pub overflow_add-scan : goal.overflow_add-scan
overflow_add-scan c =
    let i = c.self.inside in
    let runs = c.self.invariant.kept.sound.runs in
    let timely = timely_enough i.machine.fixed i.machine i.history.items i.at c.self.invariant.kept
    runs.scans runs.plan.count in
    let few = timely.gone in
    omega arith

pub returns-clause-due : goal.returns-clause-due
returns-clause-due c =
    let i = c.self.inside in
    sym (due_is i.machine.fixed i.machine i.history.items i.at i.reserved c.args.self.now
    c.next_due.result c.self.view_is c.self.invariant.kept
    (sym c.if-is_over.ensures) c.next_due.ensures.next)
