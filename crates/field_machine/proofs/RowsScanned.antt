-- A scan row by row.
use Rattle.std.proofs.Common.{◌≡◌, ℕ, ◌+◌, ◌-◌, ◌/◌, ◌%◌, ◌<◌, ◌≤◌, Bool, true, false, ◌==◌, List}
use Rattle.std.proofs.Common.{[], ◌∷◌, ◌++◌, Option, Some, None, refl, sym, ap, ◌∙◌, subst, arith, length}
use Rattle.std.specs.Prelude.{if◌then◌else◌, slice_get}
use Rattle.std.proofs.Math.Nat.{div-one}
use Rattle.std.proofs.lemmas.Bool.{eqb-true, eq-eqb}
use Rattle.plant_types.specs.declared.plan.OrderRow.{OrderRow}
use Rattle.scan_order.specs.declared.due.ScanStep.{ScanStep}
use Rattle.scan_order.specs.declared.due.ScanStep.TheVariants as steps
use Rattle.scan_order.specs.Due.{full_scan, input_of, output_of, row_of, rows_from, step_with}
use Rattle.scan_order.proofs.Rows.{rows_from-end, rows_from-row}
use Rattle.controller_core.specs.declared.fixed.Fixed.{Fixed}
use Rattle.controller_core.specs.Replay.{ControllerState, solved}
use Rattle.field_runs.specs.Alike.{IsAlike}
use Rattle.field_runs.specs.Scan.{behind_steps, brought_to, scanned, stepped_with}
use Rattle.field_runs.proofs.Playing.{stopped-steps}
use Rattle.field_machine.specs.Choices.{choices_for, told_by}

-- the state behind steps in which the field brings rows in a way
abbrev pub behind_way : Fixed → ℕ → ControllerState → List ScanStep → ControllerState
behind_way fixed way s due = behind_steps fixed (told_by fixed.plan due way) s due

pub same-alike : (s : ControllerState) → IsAlike s s
same-alike s = record { references = refl; edges = refl; stop = refl; clock = refl }

module _ (fixed : Fixed) (r : ℕ) (rest : List ScanStep) where
  outs : (output : Option ℕ) (way : ℕ) (s : ControllerState)
      → behind_way fixed way s (step_with output (steps.Out r) ++ rest)
      ≡ behind_way fixed way s rest
  unfolding behind_steps
  outs None way s = refl
  outs (Some drop) way s = by (s.stop == 0) refl
    where
      by : (b : Bool) → (s.stop == 0) ≡ b
          → (if s.stop == 0 then behind_way fixed way s rest else s) ≡ behind_way fixed way s rest
      by true is = ap (λ c. if c then behind_way fixed way s rest else s) is
      by false is =
          ap (λ c. if c then behind_way fixed way s rest else s) is
          ∙ sym (stopped-steps fixed (told_by fixed.plan rest way) s rest is)

  solves : (output : Option ℕ) (way : ℕ) (s : ControllerState) → (s.stop == 0) ≡ true
      → behind_way fixed way s (steps.Solve r ∷ (step_with output (steps.Out r) ++ rest))
      ≡ behind_way fixed way (solved fixed.plan.segments (row_of fixed.plan r) s) rest
  unfolding behind_steps
  solves output way s goes =
      let after = solved fixed.plan.segments (row_of fixed.plan r) s in
      let behind = behind_way fixed way after (step_with output (steps.Out r) ++ rest) in
      ap (λ b. if b then behind else s) goes ∙ outs output way after

  brings : (input output : Option ℕ) (way : ℕ) (s : ControllerState)
      → input_of (row_of fixed.plan r) ≡ input → (s.stop == 0) ≡ true
      → behind_way fixed way s ((step_with input (steps.In r)
      ++ (steps.Solve r ∷ step_with output (steps.Out r))) ++ rest)
      ≡ behind_way fixed (way / choices_for fixed.plan.drops input)
      (solved fixed.plan.segments (row_of fixed.plan r) (brought_to fixed.plan.drops input
      (way % choices_for fixed.plan.drops input + 1) s)) rest
  unfolding behind_steps
  brings None output way s is goes =
      solves output way s goes
      ∙ ap (λ n. behind_way fixed n (solved fixed.plan.segments (row_of fixed.plan r) s) rest)
      (sym (div-one way))
  brings (Some drop) output way s is goes =
      let drops = fixed.plan.drops in
      let due = steps.Solve r ∷ (step_with output (steps.Out r) ++ rest) in
      let brought = λ (o : Option ℕ).
      behind_way fixed (way / choices_for drops o)
      (brought_to drops o (way % choices_for drops o + 1) s) due in
      ap (λ b. if b then brought (input_of (row_of fixed.plan r)) else s) goes
      ∙ (ap brought is
      ∙ solves output (way / choices_for drops (Some drop))
      (brought_to drops (Some drop) (way % choices_for drops (Some drop) + 1) s) goes)

-- a row of the order of solve
pub row-scanned : (fixed : Fixed) (i way : ℕ) (row : OrderRow) (s : ControllerState)
    → slice_get fixed.plan.orders i ≡ Some row → i < length fixed.plan.orders
    → (s.stop == 0) ≡ true
    → behind_way fixed way s (rows_from fixed.plan (i + 1))
    ≡ behind_way fixed (way / choices_for fixed.plan.drops row.input)
    (solved fixed.plan.segments (Some row) (brought_to fixed.plan.drops row.input
    (way % choices_for fixed.plan.drops row.input + 1) s)) (rows_from fixed.plan (i + 1 + 1))
row-scanned fixed i way row s at within goes =
    let plan = fixed.plan in
    let r = i + 1 in
    let rest = rows_from plan (i + 1 + 1) in
    let back : i + 1 - 1 ≡ i = omega arith in
    let here : row_of plan r ≡ Some row = ap (slice_get plan.orders) back ∙ at in
    let steps-are = rows_from-row plan r (omega (arith, within)) in
    ap (behind_way fixed way s) steps-are
    ∙ (brings fixed r rest (input_of (row_of plan r)) (output_of (row_of plan r)) way s refl goes
    ∙ ap (λ (o : Option OrderRow).
    behind_way fixed (way / choices_for plan.drops (input_of o))
    (solved plan.segments o (brought_to plan.drops (input_of o)
    (way % choices_for plan.drops (input_of o) + 1) s)) rest) here)

-- behind the last row the scan ends
over-by : (fixed : Fixed) (s : ControllerState) (b : Bool)
    → IsAlike (if b then stepped_with fixed 1 s steps.End else s) s
over-by fixed s true = record { references = refl; edges = refl; stop = refl; clock = refl }
over-by fixed s false = same-alike s

ends : (fixed : Fixed) (way : ℕ) (s : ControllerState)
    → IsAlike (behind_way fixed way s (steps.End ∷ [])) s
unfolding behind_steps
ends fixed way s = over-by fixed s (s.stop == 0)

pub rows-over : (fixed : Fixed) (i way : ℕ) (s : ControllerState) → length fixed.plan.orders ≤ i
    → IsAlike (behind_way fixed way s (rows_from fixed.plan (i + 1))) s
rows-over fixed i way s past =
    subst (λ (due : List ScanStep). IsAlike (behind_way fixed way s due) s)
    (sym (rows_from-end fixed.plan (i + 1) (omega (arith, past)))) (ends fixed way s)

-- a scan begins
pub scan-begun : (fixed : Fixed) (way : ℕ) (s : ControllerState) → (s.stop == 0) ≡ true
    → scanned fixed (told_by fixed.plan (full_scan fixed.plan) way) s
    ≡ behind_way fixed way (stepped_with fixed 1 s steps.Begin) (rows_from fixed.plan 1)
unfolding behind_steps
scan-begun fixed way s goes =
    ap (λ b. if b then behind_way fixed way (stepped_with fixed 1 s steps.Begin)
    (rows_from fixed.plan 1) else s) goes

-- where a controller has stopped, a scan changes nothing
pub scan-stopped : (fixed : Fixed) (told : List ℕ) (s : ControllerState) → (s.stop == 0) ≡ false
    → IsAlike (scanned fixed told s) s
scan-stopped fixed told s stopped =
    subst (λ (q : ControllerState). IsAlike q s)
    (sym (stopped-steps fixed told s (full_scan fixed.plan) stopped)) (same-alike s)

-- nor do the rows that are left
pub rows-stopped : (fixed : Fixed) (i way : ℕ) (s : ControllerState) → (s.stop == 0) ≡ false
    → IsAlike (behind_way fixed way s (rows_from fixed.plan (i + 1))) s
rows-stopped fixed i way s stopped =
    subst (λ (q : ControllerState). IsAlike q s)
    (sym (stopped-steps fixed (told_by fixed.plan (rows_from fixed.plan (i + 1)) way) s
    (rows_from fixed.plan (i + 1)) stopped)) (same-alike s)

-- a row that was brought and solved, in which the controller went on before
pub row-done : (fixed : Fixed) (i way many : ℕ) (row : OrderRow) (s brought after t : ControllerState)
    → slice_get fixed.plan.orders i ≡ Some row → i < length fixed.plan.orders → s.stop ≡ 0
    → many ≡ choices_for fixed.plan.drops row.input
    → brought ≡ brought_to fixed.plan.drops row.input (way % many + 1) s
    → after ≡ solved fixed.plan.segments (Some row) brought
    → t ≡ behind_way fixed way s (rows_from fixed.plan (i + 1))
    → t ≡ behind_way fixed (way / many) after (rows_from fixed.plan (i + 1 + 1))
row-done fixed i way many row s brought after t at within goes count is made behind =
    behind
    ∙ (row-scanned fixed i way row s at within (eq-eqb s.stop 0 goes)
    ∙ (ap (λ n. behind_way fixed (way / n) (solved fixed.plan.segments (Some row)
    (brought_to fixed.plan.drops row.input (way % n + 1) s)) (rows_from fixed.plan (i + 1 + 1)))
    (sym count)
    ∙ (ap (λ (q : ControllerState). behind_way fixed (way / many)
    (solved fixed.plan.segments (Some row) q) (rows_from fixed.plan (i + 1 + 1))) (sym is)
    ∙ ap (λ (q : ControllerState). behind_way fixed (way / many) q
    (rows_from fixed.plan (i + 1 + 1))) (sym made))))

-- a number that is not 0
pub not-zero : (n : ℕ) → (n ≡ 0 → ⊥) → (n == 0) ≡ false
not-zero n h = by (n == 0) refl
  where
    by : (b : Bool) → (n == 0) ≡ b → (n == 0) ≡ false
    by true is = absurd (h (eqb-true n 0 is))
    by false is = is
