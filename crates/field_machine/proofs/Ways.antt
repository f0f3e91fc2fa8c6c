-- Ways as rows, and rows as ways.
use Rattle.std.proofs.Common.{◌≡◌, ℕ, zero, suc, ◌+◌, ◌-◌, ◌*◌, ◌/◌, ◌%◌, ◌<◌, ◌≤◌, ◌==◌, List, []}
use Rattle.std.proofs.Common.{◌∷◌, ◌++◌, Option, Some, None, refl, sym, ap, ◌∙◌, subst, arith, length}
use Rattle.std.proofs.Common.{map, drop, max, get_or}
use Rattle.std.proofs.lemmas.List.{get_or-map}
use Rattle.std.specs.Prelude.{if◌then◌else◌, slice_get}
use Rattle.std.proofs.Math.Nat.{add-mul-mod_self_left, add-mul-div_left, mul-le-mul_left, mul-suc}
use Rattle.std.proofs.Math.Nat.{mod-eq_of_lt, div-eq_of_lt, mul_assoc}
use Rattle.plant_types.specs.declared.drops.IoDrop.{IoDrop}
use Rattle.plant_types.specs.declared.drops.ScriptRow.{ScriptRow}
use Rattle.plant_types.specs.declared.plan.ControllerPlan.{ControllerPlan}
use Rattle.plant_types.specs.declared.plan.OrderRow.{OrderRow}
use Rattle.scan_order.specs.declared.due.ScanStep.{ScanStep}
use Rattle.scan_order.specs.declared.due.ScanStep.TheVariants as steps
use Rattle.scan_order.specs.Due.{full_scan, input_of, output_of, row_of, row_steps, rows_from}
use Rattle.scan_order.specs.Due.{step_with}
use Rattle.scan_order.proofs.Rows.{rows_from-end, rows_from-row}
use Rattle.traffic_cop.specs.Drops.{drop_named}
use Rattle.controller_core.specs.declared.fixed.Fixed.{Fixed}
use Rattle.controller_core.specs.Event.{entry_of}
use Rattle.controller_core.specs.Replay.{ControllerState, apply}
use Rattle.field_runs.specs.Scan.{behind_steps, brought_to, rest_of, told_first}
use Rattle.field_runs.specs.Told.{rows_for, rows_in, AreTold, NamesRow}
use Rattle.field_search.specs.Covered.{TellAll}
use Rattle.field_search.specs.Found.{EachTells}
use Rattle.field_machine.specs.Choices.{choices_at, choices_for, choices_of, product, told_by, ways}

-- ---- there is a row for each exchange

rows-some : (script : List ScriptRow) → 1 ≤ rows_in script
rows-some [] = omega arith
rows-some (row ∷ rows) = omega arith

for-some : (drop : Option IoDrop) → 1 ≤ rows_for drop
for-some None = omega arith
for-some (Some drop) = rows-some drop.script

pub choices-some : (drops : List IoDrop) (input : Option ℕ) → 1 ≤ choices_for drops input
choices-some drops None = omega arith
choices-some drops (Some number) = for-some (drop_named drops number)

-- ---- each way tells rows

digit-named : (plan : ControllerPlan) (input : Option ℕ) (n : ℕ) → 1 ≤ n
    → n ≤ choices_for plan.drops input → NamesRow plan input n
digit-named plan None n from to = tt
digit-named plan (Some drop) n from to = (from, to)

pub ways-told : (plan : ControllerPlan) (due : List ScanStep) (way : ℕ)
    → AreTold plan due (told_by plan due way)
ways-told plan [] way = tt
ways-told plan (steps.Begin ∷ due) way = (tt, ways-told plan due way)
ways-told plan (steps.In row ∷ due) way =
    let some = choices-some plan.drops (input_of (row_of plan row)) in
    let low : way % choices_at plan row < choices_at plan row = omega (arith, some) in (
      digit-named plan (input_of (row_of plan row)) (way % choices_at plan row + 1)
          (omega arith) (omega (arith, low)),
      ways-told plan due (way / choices_at plan row),
    )
ways-told plan (steps.Solve row ∷ due) way = (tt, ways-told plan due way)
ways-told plan (steps.Out row ∷ due) way = (tt, ways-told plan due way)
ways-told plan (steps.End ∷ due) way = (tt, ways-told plan due way)
ways-told plan (steps.Fail ∷ due) way = (tt, ways-told plan due way)
ways-told plan (steps.Dark ∷ due) way = (tt, ways-told plan due way)

-- ---- rows that are told are those of a way

-- a way brings the same as rows that are told
record IsWayOf (fixed : Fixed) (due : List ScanStep) (told : List ℕ) : Type 0 where
  way : ℕ
  below : way < ways fixed.plan due
  same : (s : ControllerState) → behind_steps fixed (told_by fixed.plan due way) s due
      ≡ behind_steps fixed told s due

-- a digit that brings the same as a row
in-way : (plan : ControllerPlan) (input : Option ℕ) (n : ℕ) → NamesRow plan input n
    → (digit : ℕ) × ((digit < choices_for plan.drops input) × ((s : ControllerState)
    → brought_to plan.drops input (digit + 1) s ≡ brought_to plan.drops input n s))
in-way plan None n told = (0, (omega arith, λ s. refl))
in-way plan (Some drop) n told =
    let from = told.0 in
    let to = told.1 in
    let back : n - 1 + 1 ≡ n = omega (arith, from) in
    (n - 1, (omega (arith, from, to), λ s. ap (λ k. brought_to plan.drops (Some drop) k s) back))

product-below : (a r w most : ℕ) → a < r → w < most → a + r * w < r * most
product-below a r w most low high =
    let more : r * suc w ≡ r * w + r = mul-suc r w in
    let all : r * suc w ≤ r * most = mul-le-mul_left r (omega (arith, high)) in
    omega (arith, more, all, low)

low-digit : (a r w : ℕ) → a < r → (a + r * w) % r ≡ a
low-digit a r w low = add-mul-mod_self_left a r w ∙ mod-eq_of_lt low

high-digits : (a r w : ℕ) → a < r → (a + r * w) / r ≡ w
high-digits a r w low =
    let some : zero < r = omega (arith, low) in
    let none : a / r ≡ zero = div-eq_of_lt low in
    add-mul-div_left a w some ∙ (ap (λ n. n + w) none ∙ omega arith)

tell : (fixed : Fixed) (due : List ScanStep) (told : List ℕ) → AreTold fixed.plan due told
    → IsWayOf fixed due told
unfolding behind_steps
tell fixed [] told are = record { way = 0; below = omega arith; same = λ s. refl }
tell fixed (steps.In row ∷ due) told are =
    let plan = fixed.plan in
    let input = input_of (row_of plan row) in
    let one = in-way plan input (told_first told) are.0 in
    let rest = tell fixed due (rest_of told) are.1 in
    let r = choices_at plan row in
    let way = one.0 + r * rest.way in
    let low : way % r ≡ one.0 = low-digit one.0 r rest.way one.1.0 in
    let high : way / r ≡ rest.way = high-digits one.0 r rest.way one.1.0 in
    record {
      way = way;
      below = product-below one.0 r rest.way (ways plan due) one.1.0 rest.below;
      same = λ s. ap (λ (t : ControllerState). if s.stop == 0 then t else s)
          (ap (λ k. behind_steps fixed (told_by plan due k)
          (brought_to plan.drops input (way % r + 1) s) due) high
          ∙ (ap (λ k. behind_steps fixed (told_by plan due rest.way)
          (brought_to plan.drops input (k + 1) s) due) low
          ∙ (ap (λ (t : ControllerState). behind_steps fixed (told_by plan due rest.way) t due)
          (one.1.1 s)
          ∙ rest.same (brought_to plan.drops input (told_first told) s))));
    }
tell fixed (steps.Begin ∷ due) told are =
    let rest = tell fixed due told are.1 in
    record {
      way = rest.way;
      below = rest.below;
      same = λ s. ap (λ (t : ControllerState). if s.stop == 0 then t else s)
          (rest.same (apply fixed s (entry_of fixed s steps.Begin)));
    }
tell fixed (steps.Solve row ∷ due) told are =
    let rest = tell fixed due told are.1 in
    record {
      way = rest.way;
      below = rest.below;
      same = λ s. ap (λ (t : ControllerState). if s.stop == 0 then t else s)
          (rest.same (apply fixed s (entry_of fixed s (steps.Solve row))));
    }
tell fixed (steps.Out row ∷ due) told are =
    let rest = tell fixed due told are.1 in
    record {
      way = rest.way;
      below = rest.below;
      same = λ s. ap (λ (t : ControllerState). if s.stop == 0 then t else s)
          (rest.same (apply fixed s (entry_of fixed s (steps.Out row))));
    }
tell fixed (steps.End ∷ due) told are =
    let rest = tell fixed due told are.1 in
    record {
      way = rest.way;
      below = rest.below;
      same = λ s. ap (λ (t : ControllerState). if s.stop == 0 then t else s)
          (rest.same (apply fixed s (entry_of fixed s steps.End)));
    }
tell fixed (steps.Fail ∷ due) told are =
    let rest = tell fixed due told are.1 in
    record {
      way = rest.way;
      below = rest.below;
      same = λ s. ap (λ (t : ControllerState). if s.stop == 0 then t else s)
          (rest.same (apply fixed s (entry_of fixed s steps.Fail)));
    }
tell fixed (steps.Dark ∷ due) told are =
    let rest = tell fixed due told are.1 in
    record {
      way = rest.way;
      below = rest.below;
      same = λ s. ap (λ (t : ControllerState). if s.stop == 0 then t else s)
          (rest.same (apply fixed s (entry_of fixed s steps.Dark)));
    }

-- ---- how many ways there are

ways-append : (plan : ControllerPlan) (xs ys : List ScanStep)
    → ways plan (xs ++ ys) ≡ ways plan xs * ways plan ys
ways-append plan [] ys = omega arith
ways-append plan (steps.Begin ∷ xs) ys = ways-append plan xs ys
ways-append plan (steps.In row ∷ xs) ys =
    ap (λ n. choices_at plan row * n) (ways-append plan xs ys)
    ∙ sym (mul_assoc (choices_at plan row) (ways plan xs) (ways plan ys))
ways-append plan (steps.Solve row ∷ xs) ys = ways-append plan xs ys
ways-append plan (steps.Out row ∷ xs) ys = ways-append plan xs ys
ways-append plan (steps.End ∷ xs) ys = ways-append plan xs ys
ways-append plan (steps.Fail ∷ xs) ys = ways-append plan xs ys
ways-append plan (steps.Dark ∷ xs) ys = ways-append plan xs ys

outs-ways : (plan : ControllerPlan) (row : ℕ) (output : Option ℕ)
    → ways plan (step_with output (steps.Out row)) ≡ 1
outs-ways plan row None = refl
outs-ways plan row (Some drop) = refl

ins-ways : (plan : ControllerPlan) (row : ℕ) (input : Option ℕ) (rest : List ScanStep)
    → input_of (row_of plan row) ≡ input → ways plan rest ≡ 1
    → ways plan (step_with input (steps.In row) ++ rest) ≡ choices_for plan.drops input
ins-ways plan row None rest is one = one
ins-ways plan row (Some drop) rest is one =
    ap (λ n. choices_at plan row * n) one
    ∙ (omega arith ∙ ap (choices_for plan.drops) is)

row-ways : (plan : ControllerPlan) (row : ℕ) → ways plan (row_steps plan row) ≡ choices_at plan row
row-ways plan row =
    ins-ways plan row (input_of (row_of plan row)) _ refl
    (outs-ways plan row (output_of (row_of plan row)))

pub drop-next : {X : Type 0} (i : ℕ) (xs : List X) (x : X) (rest : List X)
    → drop i xs ≡ x ∷ rest → (slice_get xs i ≡ Some x) × ((drop (suc i) xs ≡ rest)
    × (i < length xs))
drop-next zero [] x rest is = absurd cc
drop-next {X} zero (y ∷ xs) x rest is =
    let first : y ≡ x = cc in
    let others : xs ≡ rest = cc in
    (ap Some first, (others, omega arith))
drop-next (suc i) [] x rest is = absurd cc
drop-next (suc i) (y ∷ xs) x rest is =
    let h = drop-next i xs x rest is in
    let less = h.1.1 in
    (h.0, (h.1.0, omega (arith, less)))

pub drop-none : {X : Type 0} (i : ℕ) (xs : List X) → drop i xs ≡ [] → length xs ≤ i
drop-none i [] is = omega arith
drop-none zero (y ∷ xs) is = absurd cc
drop-none (suc i) (y ∷ xs) is = let h = drop-none i xs is in omega (arith, h)

rows-ways : (plan : ControllerPlan) (rest : List OrderRow) (i : ℕ) → drop i plan.orders ≡ rest
    → ways plan (rows_from plan (i + 1))
    ≡ product (map (λ row. choices_for plan.drops row.input) rest)
rows-ways plan [] i is =
    let past = drop-none i plan.orders is in
    ap (ways plan) (rows_from-end plan (i + 1) (omega (arith, past)))
rows-ways plan (row ∷ rest) i is =
    let next = drop-next i plan.orders row rest is in
    let within = next.1.1 in
    let back : i + 1 - 1 ≡ i = omega arith in
    let up : suc i ≡ i + 1 = omega arith in
    let here : row_of plan (i + 1) ≡ Some row = ap (slice_get plan.orders) back ∙ next.0 in
    ap (ways plan) (rows_from-row plan (i + 1) (omega (arith, within)))
    ∙ (ways-append plan (row_steps plan (i + 1)) (rows_from plan (i + 1 + 1))
    ∙ (ap (λ n. n * ways plan (rows_from plan (i + 1 + 1)))
    (row-ways plan (i + 1) ∙ ap (λ (o : Option OrderRow). choices_for plan.drops (input_of o)) here)
    ∙ ap (λ n. choices_for plan.drops row.input * n)
    (rows-ways plan rest (i + 1) (ap (λ n. drop n plan.orders) (sym up) ∙ next.1.0))))

pub all-ways : (plan : ControllerPlan) → ways plan (full_scan plan) ≡ product (choices_of plan)
all-ways plan = rows-ways plan plan.orders 0 refl

-- ---- what a machine owes

pub ways-tell-all : (fixed : Fixed) (count : ℕ) → count ≡ product (choices_of fixed.plan)
    → TellAll fixed (told_by fixed.plan (full_scan fixed.plan)) count
ways-tell-all fixed count is told are =
    let one = tell fixed (full_scan fixed.plan) told are in (
      one.way,
      (subst (λ n. one.way < n) (all-ways fixed.plan ∙ sym is) one.below, one.same),
    )

pub each-tells : (fixed : Fixed) (count : ℕ)
    → EachTells fixed (told_by fixed.plan (full_scan fixed.plan)) count
each-tells fixed count by h = ways-told fixed.plan (full_scan fixed.plan) by

-- how many rows a script has, as a number
pub rows-many : (script : List ScriptRow) → rows_in script ≡ max (length script) 1
rows-many [] = omega arith
rows-many (row ∷ rows) = omega arith

-- a product up to a place, and behind it
pub product-step : (ways : ℕ) (choices : List ℕ) (i n : ℕ) (rest : List ℕ)
    → drop i choices ≡ n ∷ rest → (ways * n) * product rest ≡ ways * product (drop i choices)
product-step ways choices i n rest is =
    mul_assoc ways n (product rest) ∙ ap (λ (l : List ℕ). ways * product l) (sym is)

-- how many rows there are for a row of the order of solve
pub choice-at : (plan : ControllerPlan) (choices : List ℕ) (i d : ℕ) (other : OrderRow)
    → choices ≡ choices_of plan → i < length plan.orders
    → get_or choices i d ≡ choices_for plan.drops (get_or plan.orders i other).input
choice-at plan choices i d other is within =
    ap (λ (l : List ℕ). get_or l i d) is
    ∙ get_or-map (λ (row : OrderRow). choices_for plan.drops row.input) plan.orders i other d within
