use Rattle.std.proofs.Common.{sym, ◌∙◌}
use Rattle.scan_order.specs.declared.power.ScanPower.TheVariants as powers
use Rattle.scan_order.proofs.Powers.{dark-next, fails-next, failure-next, next-in}
use Rattle.scan_order.proofs.due.next_due.Goals as goal

pub returns-in-Dark-clause-next : goal.returns-in-Dark-clause-next
returns-in-Dark-clause-next c =
    next-in c.args.plan.now c.args.scan powers.Dark c.args.at _
    (sym c.in-Dark.is ∙ c.power_in.ensures) (dark-next c.args.plan.now c.args.at)

pub returns-in-Fails-clause-next : goal.returns-in-Fails-clause-next
returns-in-Fails-clause-next c =
    next-in c.args.plan.now c.args.scan (powers.Fails c.in-Fails.row) c.args.at _
    (sym c.in-Fails.is ∙ c.power_in.ensures)
    (failure-next c.args.plan.now c.in-Fails.row c.args.at
    (sym c.is_failing.ensures ∙ c.if-is_failing.true))

pub returns-in-Fails-2-clause-next : goal.returns-in-Fails-2-clause-next
returns-in-Fails-2-clause-next c =
    next-in c.args.plan.now c.args.scan (powers.Fails c.in-Fails.row) c.args.at _
    (sym c.in-Fails.is ∙ c.power_in.ensures)
    (fails-next c.args.plan.now c.in-Fails.row c.args.at _
    (sym c.is_failing.ensures ∙ c.if-is_failing.false) c.full_next-in-Fails-2.ensures.next)
