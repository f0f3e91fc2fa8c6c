-- The ways of exchanges, and the rows that they tell.
use Rattle.std.proofs.Common.{◌≡◌, ℕ, zero, suc, ◌+◌, ◌-◌, ◌*◌, ◌/◌, ◌%◌, ◌<◌, ◌≤◌, List, [], ◌∷◌}
use Rattle.std.proofs.Common.{◌++◌, Option, Some, None, refl, sym, ap, ◌∙◌, subst, arith}
use Rattle.std.proofs.Common.{map}
use Rattle.std.proofs.Common.{drop}
use Rattle.std.specs.Prelude.{◌==◌, if◌then◌else◌, slice_get}
use Rattle.std.proofs.Math.Nat.{add-mul-mod_self_left, add-mul-div_left, mul-le-mul_left, mul-suc}
use Rattle.std.proofs.Math.Nat.{mod-eq_of_lt, div-eq_of_lt}
use Rattle.plant_types.specs.declared.drops.IoDrop.{IoDrop}
use Rattle.plant_types.specs.declared.plan.ControllerPlan.{ControllerPlan}
use Rattle.plant_types.specs.declared.plan.OrderRow.{OrderRow}
use Rattle.scan_order.specs.declared.due.ScanStep.{ScanStep}
use Rattle.scan_order.specs.declared.due.ScanStep.TheVariants as steps
use Rattle.scan_order.specs.Due.{full_scan, input_of, output_of, row_of, rows_from}
use Rattle.scan_order.specs.Due.{step_with}
use Rattle.scan_order.proofs.Rows.{rows_from-end, rows_from-row}
use Rattle.field_machine.specs.declared.exchanges.Exchange.{Exchange}
use Rattle.field_machine.specs.Choices.{choices_for, choices_of, product, told_by}
use Rattle.field_machine.proofs.Ways.{drop-next, drop-none}
use Rattle.side_runs.specs.Brought.{behind_exchange, NamesRows, next_row, rows_told, ScanField}
use Rattle.field_pair.specs.Choices.{InRange, next_brought, product_of, read_at, reads_of, way_in}
use Rattle.field_pair.specs.Choices.{without_next}
use Rattle.field_pair.specs.Exchanged.{field_of}
use Rattle.field_pair.proofs.Taking.{field-behind}

-- ---- a digit and those behind it

pub low-digit : (a r w : ℕ) → a < r → (a + r * w) % r ≡ a
low-digit a r w low = add-mul-mod_self_left a r w ∙ mod-eq_of_lt low

pub high-digits : (a r w : ℕ) → a < r → (a + r * w) / r ≡ w
high-digits a r w low =
    let some : zero < r = omega (arith, low) in
    let none : a / r ≡ zero = div-eq_of_lt low in
    add-mul-div_left a w some ∙ (ap (λ n. n + w) none ∙ omega arith)

pub digits-below : (a r w most : ℕ) → a < r → w < most → a + r * w < r * most
digits-below a r w most low high =
    let more : r * suc w ≡ r * w + r = mul-suc r w in
    let all : r * suc w ≤ r * most = mul-le-mul_left r (omega (arith, high)) in
    omega (arith, more, all, low)

-- ---- the exchanges of a field are in range

pub in-range : (drops : List IoDrop) (rows : List OrderRow) (exchanges : List Exchange)
    → NamesRows drops (field_of exchanges) → InRange (map (read_at drops) rows) exchanges
in-range drops [] exchanges named = tt
in-range drops (row ∷ rows) exchanges named =
    let here = next-named row.input in (
      here.0,
      here.1,
      in-range drops rows (without_next row.input exchanges)
          (subst (NamesRows drops) (sym (field-behind row.input exchanges)) (behind row.input)),
    )
  where
    next-named : (input : Option ℕ) → (1 ≤ next_brought input exchanges)
        × (next_brought input exchanges ≤ choices_for drops input)
    next-named None = (omega arith, omega arith)
    next-named (Some d) = named d 0

    behind : (input : Option ℕ) → NamesRows drops (behind_exchange input (field_of exchanges))
    behind None = named
    behind (Some read) = λ d nth. named d (if read == d then nth + 1 else nth)

-- ---- steps of a row

-- what a row tells, before what is told behind it
abbrev told_before : Option ℕ → ℕ → List ℕ → List ℕ
told_before None row rows = rows
told_before (Some d) row rows = row ∷ rows

module _ (plan : ControllerPlan) (r : ℕ) (rest : List ScanStep) where
  outs-told : (output : Option ℕ) (way : ℕ)
      → told_by plan (step_with output (steps.Out r) ++ rest) way ≡ told_by plan rest way
  outs-told None way = refl
  outs-told (Some d) way = refl

  outs-field : (output : Option ℕ) (field : ScanField)
      → rows_told plan (step_with output (steps.Out r) ++ rest) field ≡ rows_told plan rest field
  outs-field None field = refl
  outs-field (Some d) field = refl

  ins-told : (input output : Option ℕ) (way : ℕ) → input_of (row_of plan r) ≡ input
      → told_by plan ((step_with input (steps.In r)
      ++ (steps.Solve r ∷ step_with output (steps.Out r))) ++ rest) way
      ≡ told_before input (way % choices_for plan.drops input + 1)
      (told_by plan rest (way / choices_for plan.drops input))
  ins-told None output way is =
      let one : way ≡ way / 1 = sym (div-by-one way) in
      outs-told output way ∙ ap (told_by plan rest) one
    where
      div-by-one : (n : ℕ) → n / 1 ≡ n
      div-by-one n = omega arith
  ins-told (Some d) output way is =
      let many : choices_for plan.drops (input_of (row_of plan r)) ≡ choices_for plan.drops (Some
      d) =
      ap (choices_for plan.drops) is in
      ap (λ n. (way % n + 1) ∷ told_by plan (step_with output (steps.Out r) ++ rest) (way / n)) many
      ∙ ap (λ (l : List ℕ). (way % choices_for plan.drops (Some d) + 1) ∷ l)
      (outs-told output (way / choices_for plan.drops (Some d)))

  ins-field : (input output : Option ℕ) (field : ScanField) → input_of (row_of plan r) ≡ input
      → rows_told plan ((step_with input (steps.In r)
      ++ (steps.Solve r ∷ step_with output (steps.Out r))) ++ rest) field
      ≡ told_before input (next_row input field)
      (rows_told plan rest (behind_exchange input field))
  ins-field None output field is = outs-field output field
  ins-field (Some d) output field is =
      ap (λ (o : Option ℕ). next_row o field
      ∷ rows_told plan (step_with output (steps.Out r) ++ rest) (behind_exchange o field)) is
      ∙ ap (λ (l : List ℕ). field d 0 ∷ l) (outs-field output (behind_exchange (Some d) field))

-- ---- rows

told-same : (input : Option ℕ) (x y : ℕ) (xs ys : List ℕ) → x ≡ y → xs ≡ ys
    → told_before input x xs ≡ told_before input y ys
told-same None x y xs ys one rest = rest
told-same (Some d) x y xs ys one rest = λ i. one i ∷ rest i

ways-told : (plan : ControllerPlan) (rest : List OrderRow) (i : ℕ) (exchanges : List Exchange)
    → drop i plan.orders ≡ rest → InRange (map (read_at plan.drops) rest) exchanges
    → told_by plan (rows_from plan (i + 1)) (way_in (map (read_at plan.drops) rest) exchanges)
    ≡ rows_told plan (rows_from plan (i + 1)) (field_of exchanges)
ways-told plan [] i exchanges is range =
    let past = drop-none i plan.orders is in
    let over = rows_from-end plan (i + 1) (omega (arith, past)) in
    ap (λ (due : List ScanStep). told_by plan due 0) over
    ∙ sym (ap (λ (due : List ScanStep). rows_told plan due (field_of exchanges)) over)
ways-told plan (row ∷ rest) i exchanges is range =
    let next = drop-next i plan.orders row rest is in
    let within = next.1.1 in
    let back : i + 1 - 1 ≡ i = omega arith in
    let up : suc i ≡ i + 1 = omega arith in
    let here : row_of plan (i + 1) ≡ Some row = ap (slice_get plan.orders) back ∙ next.0 in
    let input : input_of (row_of plan (i + 1)) ≡ row.input = ap input_of here in
    let many = choices_for plan.drops row.input in
    let x = next_brought row.input exchanges in
    let left = without_next row.input exchanges in
    let w = way_in (map (read_at plan.drops) rest) left in
    let from = range.0 in
    let to = range.1 in
    let low : x - 1 < many = omega (arith, from, to) in
    let digit : (x - 1 + many * w) % many + 1 ≡ x =
    ap (λ n. n + 1) (low-digit (x - 1) many w low) ∙ omega (arith, from) in
    let due = rows_from plan (i + 1 + 1) in
    let steps-are = rows_from-row plan (i + 1) (omega (arith, within)) in
    let shape : rows_from plan (i + 1)
    ≡ (step_with row.input (steps.In (i + 1)) ++ (steps.Solve (i + 1)
    ∷ step_with (output_of (row_of plan (i + 1))) (steps.Out (i + 1)))) ++ due =
    steps-are ∙ ap (λ (o : Option ℕ). (step_with o (steps.In (i + 1)) ++ (steps.Solve (i + 1)
    ∷ step_with (output_of (row_of plan (i + 1))) (steps.Out (i + 1)))) ++ due) input in
    let more = ways-told plan rest (i + 1) left
    (ap (λ n. drop n plan.orders) (sym up) ∙ next.1.0) range.2 in
    ap (λ (l : List ScanStep). told_by plan l (x - 1 + many * w)) shape
    ∙ (ins-told plan (i + 1) due row.input (output_of (row_of plan (i + 1))) (x - 1 + many * w)
    input
    ∙ (told-same row.input _ x _ (rows_told plan due (behind_exchange row.input (field_of
    exchanges)))
    digit (ap (told_by plan due) (high-digits (x - 1) many w low)
    ∙ (more ∙ ap (rows_told plan due) (field-behind row.input exchanges)))
    ∙ sym (ap (λ (l : List ScanStep). rows_told plan l (field_of exchanges)) shape
    ∙ ins-field plan (i + 1) due row.input (output_of (row_of plan (i + 1))) (field_of exchanges)
    input)))

-- the way of exchanges tells their rows
pub way-told : (plan : ControllerPlan) (exchanges : List Exchange)
    → InRange (reads_of plan) exchanges
    → told_by plan (full_scan plan) (way_in (reads_of plan) exchanges)
    ≡ rows_told plan (full_scan plan) (field_of exchanges)
way-told plan exchanges range = ways-told plan plan.orders 0 exchanges refl range

-- there are as many ways as the machine of a controller has moves
pub products-same : (plan : ControllerPlan) → product_of (reads_of plan) ≡ product (choices_of plan)
products-same plan = by plan.orders
  where
    by : (rows : List OrderRow)
        → product_of (map (read_at plan.drops) rows)
        ≡ product (map (λ (row : OrderRow). choices_for plan.drops row.input) rows)
    by [] = refl
    by (row ∷ rows) = ap (λ n. choices_for plan.drops row.input * n) (by rows)
