-- What legal histories keep of the power, where the plan keeps it.
use Rattle.std.proofs.Common.{◌≡◌, ℕ, zero, suc, ◌+◌, ◌-◌, Bool, true, false, List, [], ◌∷◌, ◌++◌}
use Rattle.std.proofs.Common.{length, Option, Some, None, refl, sym, ap, subst, ◌∙◌}
use Rattle.std.specs.Prelude.{fold, if◌then◌else◌}
use Rattle.std.specs.List.{flat_map, range_with_len, AllByRecursion}
use Rattle.plant_types.specs.declared.drops.IoDrop.{IoDrop}
use Rattle.plant_types.specs.declared.network.Segment.{Segment}
use Rattle.plant_types.specs.declared.plan.ControllerPlan.{ControllerPlan}
use Rattle.plant_types.specs.declared.plan.OrderRow.{OrderRow}
use Rattle.scan_order.specs.declared.due.ScanStep.{ScanStep}
use Rattle.scan_order.specs.declared.due.ScanStep.TheVariants as steps
use Rattle.scan_order.specs.declared.power.ScanPower.TheVariants as powers
use Rattle.scan_order.specs.Power.{power_in, KeptPowerStays}
use Rattle.scan_order.specs.Due.{due, due_with, full_scan, input_of, input_steps, output_of}
use Rattle.scan_order.specs.Due.{output_steps, row_of, row_steps, rows_from, step_with}
use Rattle.controller_core.specs.declared.fixed.Fixed.{Fixed}
use Rattle.controller_core.specs.declared.entry.Entry.{Entry}
use Rattle.controller_core.specs.declared.entry.Entry.TheVariants as entries
use Rattle.controller_core.specs.Replay.{ControllerState, apply, control_is_on, read_in}
use Rattle.controller_core.specs.Replay.{segment_solved, solved, start}
use Rattle.controller_core.specs.Controller.{EachFits}
use Rattle.controller_core.specs.Event.{scan_steps}
use Rattle.controller_core.specs.Laws.{KeptPowerIsOn, is_of_failure}
use Rattle.controller_core.specs.Panel.{lacks_power}
use Rattle.controller_core.specs.Scans.{scans_from}

-- ---- the steps that are due

abbrev HavePower : List ScanStep → Type 0
HavePower due = AllByRecursion (λ step. lacks_power step ≡ false) due

both-have : (xs ys : List ScanStep) → HavePower xs → HavePower ys → HavePower (xs ++ ys)
both-have [] ys one other = other
both-have (x ∷ xs) ys one other = (one.0, both-have xs ys one.1 other)

front-has : (xs ys : List ScanStep) → HavePower (xs ++ ys) → HavePower xs
front-has [] ys all = tt
front-has (x ∷ xs) ys all = (all.0, front-has xs ys all.1)

with-in : (drop : Option ℕ) (row : ℕ) → HavePower (step_with drop (steps.In row))
with-in None row = tt
with-in (Some drop) row = (refl, tt)

with-out : (drop : Option ℕ) (row : ℕ) → HavePower (step_with drop (steps.Out row))
with-out None row = tt
with-out (Some drop) row = (refl, tt)

row-has : (plan : ControllerPlan) (row : ℕ) → HavePower (row_steps plan row)
row-has plan row =
    both-have (input_steps plan row) (steps.Solve row ∷ output_steps plan row)
    (with-in (input_of (row_of plan row)) row) (refl, with-out (output_of (row_of plan row)) row)

rows-have : (plan : ControllerPlan) (row n : ℕ)
    → HavePower (flat_map (row_steps plan) (range_with_len row n))
rows-have plan row zero = tt
rows-have plan row (suc n) =
    both-have (row_steps plan row) (flat_map (row_steps plan) (range_with_len (row + 1) n))
    (row-has plan row) (rows-have plan (row + 1) n)

full-has : (plan : ControllerPlan) → HavePower (full_scan plan)
unfolding rows_from
full-has plan = (
  refl,
  both-have (flat_map (row_steps plan) (range_with_len 1 (suc (length plan.orders) - 1)))
      (steps.End ∷ []) (rows-have plan 1 (suc (length plan.orders) - 1)) (refl, tt),
)

scans-have : (f : Fixed) → ((scan : ℕ) → power_in f.plan scan ≡ powers.Stays) → (scan n : ℕ)
    → HavePower (scans_from f scan n)
scans-have f stays scan zero = tt
scans-have f stays scan (suc n) =
    both-have (due f.plan scan) (scans_from f (scan + 1) n)
    (subst HavePower (sym (ap (due_with f.plan) (stays scan))) (full-has f.plan))
    (scans-have f stays (scan + 1) n)

-- ---- the entries of a history

read_powered : (drops : List IoDrop) (drop : Option ℕ) (s : ControllerState)
    → (read_in drops drop s).powered ≡ s.powered
read_powered drops None s = refl
read_powered drops (Some drop) s = refl

read_failures : (drops : List IoDrop) (drop : Option ℕ) (s : ControllerState)
    → (read_in drops drop s).failures ≡ s.failures
read_failures drops None s = refl
read_failures drops (Some drop) s = refl

solved_powered : (segments : List Segment) (row : Option OrderRow) (s : ControllerState)
    → (solved segments row s).powered ≡ s.powered
solved_powered segments None s = refl
solved_powered segments (Some row) s = either (control_is_on s.solving.map row.control)
  where
    either : (b : Bool)
        → (if b then segment_solved segments row.segment s else s).powered ≡ s.powered
    either true = refl
    either false = refl

solved_failures : (segments : List Segment) (row : Option OrderRow) (s : ControllerState)
    → (solved segments row s).failures ≡ s.failures
solved_failures segments None s = refl
solved_failures segments (Some row) s = either (control_is_on s.solving.map row.control)
  where
    either : (b : Bool)
        → (if b then segment_solved segments row.segment s else s).failures ≡ s.failures
    either true = refl
    either false = refl

-- power is on behind these entries, and none of them is of a failure
pub record IsPowered (f : Fixed) (s : ControllerState) (h : List Entry) : Type 0 where
  pub powered : (fold (apply f) s h).powered ≡ true
  pub failures : (fold (apply f) s h).failures ≡ s.failures
  pub made : AllByRecursion (λ entry. is_of_failure entry ≡ false) h

one-more : (f : Fixed) (s : ControllerState) (e : Entry) (h : List Entry)
    → is_of_failure e ≡ false → (apply f s e).failures ≡ s.failures
    → IsPowered f (apply f s e) h → IsPowered f s (e ∷ h)
one-more f s e h none same rest = record {
  powered = rest.powered;
  failures = rest.failures ∙ same;
  made = (none, rest.made);
}

powered_from : (f : Fixed) (s : ControllerState) (h : List Entry) → s.powered ≡ true
    → EachFits f s h → HavePower (scan_steps h) → IsPowered f s h
unfolding EachFits
powered_from f s [] on each due = record { powered = on; failures = refl; made = tt }
powered_from f s (entries.Begin ∷ h) on each due =
    one-more f s entries.Begin h refl refl
    (powered_from f (apply f s entries.Begin) h refl each.1 due.1)
powered_from f s (entries.Input row ∷ h) on each due =
    let input = input_of (row_of f.plan row) in
    one-more f s (entries.Input row) h refl (read_failures f.plan.drops input s)
    (powered_from f (apply f s (entries.Input row)) h (read_powered f.plan.drops input s ∙ on)
    each.1 due.1)
powered_from f s (entries.Solve row ∷ h) on each due =
    let found = row_of f.plan row in
    one-more f s (entries.Solve row) h refl (solved_failures f.plan.segments found s)
    (powered_from f (apply f s (entries.Solve row)) h (solved_powered f.plan.segments found s ∙ on)
    each.1 due.1)
powered_from f s (entries.Output row words ∷ h) on each due =
    one-more f s (entries.Output row words) h refl refl (powered_from f s h on each.1 due.1)
powered_from f s (entries.End ∷ h) on each due =
    one-more f s entries.End h refl refl
    (powered_from f (apply f s entries.End) h on each.1 due.1)
powered_from f s (entries.Fail ∷ h) on each due = absurd (let no-power = due.0 in cc)
powered_from f s (entries.Dark ∷ h) on each due = absurd (let no-power = due.0 in cc)
powered_from f s (entries.Collect calls ∷ h) on each due =
    one-more f s (entries.Collect calls) h refl refl
    (powered_from f (apply f s (entries.Collect calls)) h on each.1 due)
powered_from f s (entries.Peer id request reply ∷ h) on each due =
    one-more f s (entries.Peer id request reply) h refl refl
    (powered_from f (apply f s (entries.Peer id request reply)) h on each.1 due)
powered_from f s (entries.Off id request ∷ h) on each due =
    absurd (let two : true ≡ false = sym on ∙ each.0 in cc)
powered_from f s (entries.Finish id result ∷ h) on each due =
    one-more f s (entries.Finish id result) h refl refl
    (powered_from f (apply f s (entries.Finish id result)) h on each.1 due)

pub kept_power : KeptPowerStays → KeptPowerIsOn
kept_power law f h keeps legal =
    let all = scans-have f (λ scan. law f.plan scan keeps) 1 f.scans in
    let due = front-has (scan_steps h) legal.due.0 (subst HavePower (sym legal.due.1) all) in
    let kept = powered_from f (start f.plan) h refl legal.each due in
    record { powered = kept.powered; failures = kept.failures; entries = kept.made }
