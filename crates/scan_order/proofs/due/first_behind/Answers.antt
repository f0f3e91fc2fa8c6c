use Rattle.std.proofs.Common.{◌++◌, ◌+◌, ap, sym, ◌∙◌}
use Rattle.scan_order.specs.declared.due.ScanStep.TheVariants as steps
use Rattle.scan_order.specs.Due.{output_of, rows_from, step_with}
use Rattle.scan_order.proofs.due.first_behind.Goals as goal

pub returns-in-Some-output-clause-first : goal.returns-in-Some-output-clause-first
returns-in-Some-output-clause-first c =
    let plan = c.args.plan.now in
    let row = c.args.row in
    let named = ap output_of (sym c.row_of.ensures ∙ c.in-Some.is) ∙ c.in-Some-output.is in
    (_, ap (λ o. step_with o (steps.Out row) ++ rows_from plan (row + 1)) named)
