-- Exchanges row by row, and the scripts that they make.
use Rattle.std.proofs.Common.{◌≡◌, ℕ, ◌+◌, ◌-◌, ◌/◌, ◌%◌, ◌<◌, ◌≤◌, Bool, true, false, ◌==◌, List}
use Rattle.std.proofs.Common.{[], ◌∷◌, ◌++◌, Option, Some, None, refl, sym, ap, ◌∙◌, arith, length, cond}
use Rattle.std.specs.Prelude.{slice_get}
use Rattle.std.specs.List.{cons_option, filter_map}
use Rattle.std.proofs.Math.Nat.{div-one}
use Rattle.plant_types.specs.declared.plan.ControllerPlan.{ControllerPlan}
use Rattle.plant_types.specs.declared.plan.OrderRow.{OrderRow}
use Rattle.scan_order.specs.declared.due.ScanStep.{ScanStep}
use Rattle.scan_order.specs.declared.due.ScanStep.TheVariants as steps
use Rattle.scan_order.specs.Due.{input_of, output_of, row_of, rows_from, step_with}
use Rattle.scan_order.proofs.Rows.{rows_from-end, rows_from-row}
use Rattle.field_runs.specs.Played.{one_if, reads_drop, told_to}
use Rattle.field_runs.specs.Scan.{rest_of, told_first}
use Rattle.field_machine.specs.declared.exchanges.Exchange.{Exchange}
use Rattle.field_machine.specs.Choices.{choices_for, told_by}
use Rattle.field_machine.specs.Exchanges.{exchange_with, exchanges_in, row_to}

-- the exchanges of steps in which the field brings rows in a way
abbrev pub exchanges_by : ControllerPlan → ℕ → List ScanStep → List Exchange
exchanges_by plan way due = exchanges_in plan due (told_by plan due way)

module _ (plan : ControllerPlan) (r : ℕ) (rest : List ScanStep) where
  outs : (output : Option ℕ) (way : ℕ)
      → exchanges_by plan way (step_with output (steps.Out r) ++ rest) ≡ exchanges_by plan way rest
  outs None way = refl
  outs (Some drop) way = refl

  brings : (input output : Option ℕ) (way : ℕ) → input_of (row_of plan r) ≡ input
      → exchanges_by plan way ((step_with input (steps.In r)
      ++ (steps.Solve r ∷ step_with output (steps.Out r))) ++ rest)
      ≡ cons_option (exchange_with input (way % choices_for plan.drops input + 1))
      (exchanges_by plan (way / choices_for plan.drops input) rest)
  brings None output way is =
      outs output way ∙ ap (λ n. exchanges_by plan n rest) (sym (div-one way))
  brings (Some drop) output way is =
      let due = steps.Solve r ∷ (step_with output (steps.Out r) ++ rest) in
      ap (λ (o : Option ℕ). cons_option
      (exchange_with o (way % choices_for plan.drops o + 1))
      (exchanges_by plan (way / choices_for plan.drops o) due)) is
      ∙ ap (cons_option (exchange_with (Some drop)
      (way % choices_for plan.drops (Some drop) + 1)))
      (outs output (way / choices_for plan.drops (Some drop)))

-- those from a row of the order of solve on
pub row-exchanged : (plan : ControllerPlan) (i way : ℕ) (row : OrderRow)
    → slice_get plan.orders i ≡ Some row → i < length plan.orders
    → exchanges_by plan way (rows_from plan (i + 1))
    ≡ cons_option (exchange_with row.input (way % choices_for plan.drops row.input + 1))
    (exchanges_by plan (way / choices_for plan.drops row.input) (rows_from plan (i + 1 + 1)))
row-exchanged plan i way row at within =
    let r = i + 1 in
    let rest = rows_from plan (i + 1 + 1) in
    let back : i + 1 - 1 ≡ i = omega arith in
    let here : row_of plan r ≡ Some row = ap (slice_get plan.orders) back ∙ at in
    ap (exchanges_by plan way) (rows_from-row plan r (omega (arith, within)))
    ∙ (brings plan r rest (input_of (row_of plan r)) (output_of (row_of plan r)) way refl
    ∙ ap (λ (o : Option OrderRow). cons_option
    (exchange_with (input_of o) (way % choices_for plan.drops (input_of o) + 1))
    (exchanges_by plan (way / choices_for plan.drops (input_of o)) rest)) here)

pub rows-exchanged : (plan : ControllerPlan) (i way : ℕ) → length plan.orders ≤ i
    → exchanges_by plan way (rows_from plan (i + 1)) ≡ []
rows-exchanged plan i way past =
    ap (exchanges_by plan way) (rows_from-end plan (i + 1) (omega (arith, past)))

-- ---- what is told for a drop is what its exchanges bring

told-for : (x n d : ℕ) (b : Bool) (told : List ℕ) → (x == d) ≡ b
    → one_if b n ++ told ≡ cons_option (cond b (Some n) None) told
told-for x n d true told is = refl
told-for x n d false told is = refl

told-by-drop : (o : Option ℕ) (n d : ℕ) (told : List ℕ) (exchanges : List Exchange)
    → told ≡ filter_map (row_to d) exchanges
    → one_if (reads_drop o d) n ++ told
    ≡ filter_map (row_to d) (cons_option (exchange_with o n) exchanges)
told-by-drop None n d told exchanges same = same
told-by-drop (Some x) n d told exchanges same =
    told-for x n d (x == d) told refl
    ∙ ap (cons_option (cond (x == d) (Some n) None)) same

pub told-exchanged : (plan : ControllerPlan) (d : ℕ) (due : List ScanStep) (rows : List ℕ)
    → told_to plan d due rows ≡ filter_map (row_to d) (exchanges_in plan due rows)
unfolding told_to
told-exchanged plan d [] rows = refl
told-exchanged plan d (steps.Begin ∷ due) rows = told-exchanged plan d due rows
told-exchanged plan d (steps.In row ∷ due) rows =
    told-by-drop (input_of (row_of plan row)) (told_first rows) d
    (told_to plan d due (rest_of rows)) (exchanges_in plan due (rest_of rows))
    (told-exchanged plan d due (rest_of rows))
told-exchanged plan d (steps.Solve row ∷ due) rows = told-exchanged plan d due rows
told-exchanged plan d (steps.Out row ∷ due) rows = told-exchanged plan d due rows
told-exchanged plan d (steps.End ∷ due) rows = told-exchanged plan d due rows
told-exchanged plan d (steps.Fail ∷ due) rows = told-exchanged plan d due rows
told-exchanged plan d (steps.Dark ∷ due) rows = told-exchanged plan d due rows
