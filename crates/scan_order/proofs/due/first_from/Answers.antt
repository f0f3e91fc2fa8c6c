use Rattle.std.proofs.Common.{◌≡◌, ◌-◌, [], None, sym, ap, ◌∙◌, arith}
use Rattle.std.proofs.lemmas.Option.{slice_get_within}
use Rattle.scan_order.specs.Due.{row_of, input_of}
use Rattle.scan_order.proofs.Rows.{rows_from-in, rows_from-solve, rows_from-end, past_rows}
use Rattle.scan_order.proofs.due.first_from.Goals as goal

pub returns-in_default-clause-first : goal.returns-in_default-clause-first
returns-in_default-clause-first c =
    let none : row_of c.args.plan.now c.args.row ≡ None = cc in (
      [],
      rows_from-end c.args.plan.now c.args.row
          (past_rows c.args.plan.now c.args.row none c.requires),
    )

pub returns-in-Some-input-clause-first : goal.returns-in-Some-input-clause-first
returns-in-Some-input-clause-first c =
    let is = sym c.row_of.ensures ∙ c.in-Some.is in
    let within = slice_get_within c.args.plan.now.orders (c.args.row - 1) _ is in (
      _,
      rows_from-in c.args.plan.now c.args.row _ (omega arith)
          (ap input_of is ∙ c.in-Some-input.is),
    )

pub returns-in-Some-input-clause-step : goal.returns-in-Some-input-clause-step
returns-in-Some-input-clause-step c =
    let is = sym c.row_of.ensures ∙ c.in-Some.is in
    let within = slice_get_within c.args.plan.now.orders (c.args.row - 1) _ is in
    (c.requires, omega arith)

pub returns-in-None-clause-first : goal.returns-in-None-clause-first
returns-in-None-clause-first c =
    let is = sym c.row_of.ensures ∙ c.in-Some.is in
    let within = slice_get_within c.args.plan.now.orders (c.args.row - 1) _ is in (
      _,
      rows_from-solve c.args.plan.now c.args.row (omega arith)
          (ap input_of is ∙ c.in-None.is),
    )

pub returns-in-None-clause-step : goal.returns-in-None-clause-step
returns-in-None-clause-step c =
    let is = sym c.row_of.ensures ∙ c.in-Some.is in
    let within = slice_get_within c.args.plan.now.orders (c.args.row - 1) _ is in
    (c.requires, omega arith)
