-- How long the due lists are.
use Rattle.std.proofs.Common.{◌≤◌, ℕ, zero, suc, ◌+◌, ◌-◌, ◌*◌, Bool, true, false, List, [], ◌∷◌}
use Rattle.std.proofs.Common.{◌++◌, length, Option, Some, None, ap, arith, length-append}
use Rattle.std.specs.Prelude.{if◌then◌else◌}
use Rattle.std.specs.List.{flat_map, range_with_len}
use Rattle.plant_types.specs.declared.plan.ControllerPlan.{ControllerPlan}
use Rattle.scan_order.specs.declared.due.ScanPlace.{ScanPlace}
use Rattle.scan_order.specs.declared.due.ScanStep.{ScanStep}
use Rattle.scan_order.specs.declared.due.ScanStep.TheVariants as steps
use Rattle.scan_order.specs.declared.power.ScanPower.{ScanPower}
use Rattle.scan_order.specs.declared.power.ScanPower.TheVariants as powers
use Rattle.scan_order.specs.Power.{power_in}
use Rattle.scan_order.specs.Due.{due, due_with, full_scan, row_of, input_of, output_of, step_with}
use Rattle.scan_order.specs.Due.{row_steps, input_steps, output_steps, rows_from, is_failing}
use Rattle.scan_order.specs.Due.{place_after, up_to_failure}
use Rattle.controller_core.specs.declared.fixed.Fixed.{Fixed}
use Rattle.controller_core.specs.Scans.{left_in_scan, scans_from, IsPlaced}
use Rattle.controller_core.proofs.Places.{left-long}

step_few : (drop : Option ℕ) (step : ScanStep) → length (step_with drop step) ≤ 1
step_few None step = omega arith
step_few (Some drop) step = omega arith

row_few : (plan : ControllerPlan) (row : ℕ) → length (row_steps plan row) ≤ 3
row_few plan row =
    let first = step_few (input_of (row_of plan row)) (steps.In row) in
    let last = step_few (output_of (row_of plan row)) (steps.Out row) in
    let all = length-append (input_steps plan row) (steps.Solve row ∷ output_steps plan row) in
    omega arith

rows_few : (plan : ControllerPlan) (row n : ℕ)
    → length (flat_map (row_steps plan) (range_with_len row n)) ≤ 3 * n
rows_few plan row zero = omega arith
rows_few plan row (suc n) =
    let first = row_few plan row in
    let later = rows_few plan (row + 1) n in
    let all = length-append (row_steps plan row)
    (flat_map (row_steps plan) (range_with_len (row + 1) n)) in
    omega arith

-- the steps from a row on
pub rows_from-few : (plan : ControllerPlan) (row : ℕ)
    → length (rows_from plan row) ≤ 3 * (suc (length plan.orders) - row) + 1
unfolding rows_from
rows_from-few plan row =
    let rows = rows_few plan row (suc (length plan.orders) - row) in
    let all = length-append (flat_map (row_steps plan)
    (range_with_len row (suc (length plan.orders) - row))) (steps.End ∷ []) in
    omega arith

-- what is due in a scan with power fits the room of a whole scan
full_few : (plan : ControllerPlan) → length (full_scan plan) ≤ 3 * length plan.orders + 2
full_few plan = let e = rows_from-few plan 1 in omega arith

-- a power failure makes no list longer that ends with End
cut_few : (row : ℕ) (xs ys : List ScanStep) → length (up_to_failure row ys) ≤ length ys
    → 1 ≤ length ys
    → length (up_to_failure row (xs ++ ys)) ≤ length (xs ++ ys)
unfolding up_to_failure
cut_few row [] ys few some = few
cut_few row (x ∷ xs) ys few some =
    either (is_failing row (place_after x)) (cut_few row xs ys few some)
  where
    either : (fails : Bool) → length (up_to_failure row (xs ++ ys)) ≤ length (xs ++ ys)
        → suc (length (if fails then steps.Fail ∷ [] else up_to_failure row (xs ++ ys)))
        ≤ suc (length (xs ++ ys))
    either true later = let all = length-append xs ys in omega arith
    either false later = omega arith

end_few : (row : ℕ) → length (up_to_failure row (steps.End ∷ [])) ≤ 1
unfolding up_to_failure
end_few row = omega arith

rows_cut : (plan : ControllerPlan) (row at : ℕ)
    → length (up_to_failure row (rows_from plan at)) ≤ length (rows_from plan at)
unfolding rows_from
rows_cut plan row at =
    cut_few row (flat_map (row_steps plan) (range_with_len at (suc (length plan.orders) - at)))
    (steps.End ∷ []) (end_few row) (omega arith)

rows_some : (plan : ControllerPlan) (at : ℕ) → 1 ≤ length (rows_from plan at)
unfolding rows_from
rows_some plan at =
    let all = length-append (flat_map (row_steps plan)
    (range_with_len at (suc (length plan.orders) - at))) (steps.End ∷ []) in
    omega arith

full_cut : (plan : ControllerPlan) (row : ℕ)
    → length (up_to_failure row (full_scan plan)) ≤ length (full_scan plan)
full_cut plan row =
    cut_few row (steps.Begin ∷ []) (rows_from plan 1) (rows_cut plan row 1) (rows_some plan 1)

-- what is due in a scan fits that room, whatever becomes of the power
by_few : (plan : ControllerPlan) (power : ScanPower)
    → length (due_with plan power) ≤ 3 * length plan.orders + 2
by_few plan powers.Stays = full_few plan
by_few plan (powers.Fails row) =
    let full = full_few plan in let cut = full_cut plan row in omega arith
by_few plan powers.Dark = omega arith

due_few : (plan : ControllerPlan) (scan : ℕ)
    → length (due plan scan) ≤ 3 * length plan.orders + 2
due_few plan scan = by_few plan (power_in plan scan)

-- and so does what is left of a scan
pub fits_room : (f : Fixed) (made : List ScanStep) (gone : ℕ) (at : ScanPlace)
    → IsPlaced f made gone at → length (left_in_scan f gone made) ≤ 3 * length f.plan.orders + 2
fits_room f made gone at p =
    let left = left-long f made gone at p in
    let few = due_few f.plan (gone + 1) in
    let whole = ap length p.scan in
    let parts = length-append p.before (p.next ∷ p.after) in
    omega arith

-- and what is due in so many scans is bounded
pub scans_few : (fixed : Fixed) (scan n : ℕ) → length fixed.plan.orders ≤ 32
    → length (scans_from fixed scan n) ≤ 98 * n
scans_few fixed scan zero h = omega arith
scans_few fixed scan (suc n) h =
    let first = due_few fixed.plan scan in
    let later = scans_few fixed (scan + 1) n h in
    let all = length-append (due fixed.plan scan) (scans_from fixed (scan + 1) n) in
    omega arith
