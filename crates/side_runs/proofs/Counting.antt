-- How many exchanges steps make.
use Rattle.std.proofs.Common.{◌≡◌, ◌≢◌, ℕ, zero, suc, ◌+◌, ◌-◌, ◌≤◌, ◌<◌, Bool, true, false, ◌==◌}
use Rattle.std.proofs.Common.{List, [], ◌∷◌, Option, Some, None, refl, sym, ap, ◌∙◌, subst, length}
use Rattle.std.proofs.Common.{arith}
use Rattle.std.specs.Prelude.{if◌then◌else◌, replicate, slice_index, slice_set}
use Rattle.std.proofs.lemmas.Bool.{eqb-true, eq-eqb}
use Rattle.std.proofs.lemmas.List.{get_or-set_same, get_or-set_other, length-set}
use Rattle.plant_types.specs.declared.drops.IoDrop.{IoDrop}
use Rattle.plant_types.specs.declared.network.Segment.{Segment}
use Rattle.plant_types.specs.declared.plan.ControllerPlan.{ControllerPlan}
use Rattle.plant_types.specs.declared.plan.OrderRow.{OrderRow}
use Rattle.plant_types.specs.Plans.{KeepsPower}
use Rattle.scan_order.specs.declared.due.ScanStep.{ScanStep}
use Rattle.scan_order.specs.declared.due.ScanStep.TheVariants as steps
use Rattle.scan_order.specs.Due.{due, due_with, full_scan, input_of, row_of, rows_from}
use Rattle.scan_order.specs.Power.{KeptPowerStays}
use Rattle.traffic_cop.specs.Rows.{FitsPlan, IsRunnablePlan, NamesDrop}
use Rattle.controller_core.specs.declared.fixed.Fixed.{Fixed}
use Rattle.controller_core.specs.Controller.{fixed_with}
use Rattle.controller_core.specs.Event.{entry_of}
use Rattle.controller_core.specs.Replay.{ControllerState, apply, control_is_on, read_in}
use Rattle.controller_core.specs.Replay.{segment_solved, solved, start}
use Rattle.controller_core.specs.Run.{entries_from}
use Rattle.field_runs.specs.Field.{state_after}
use Rattle.field_runs.specs.Played.{brings_to, reads_drop}
use Rattle.field_runs.proofs.Runs.{after-more, run-stopped, run_steps, same-run}
use Rattle.field_runs.proofs.Settling.{all-get}

-- a drop that can be counted
abbrev pub InRange : Option ℕ → Type 0
InRange None = Unit {0}
InRange (Some x) = (1 ≤ x) × (x ≤ 32)

named-range : (plan : ControllerPlan) (drop : Option ℕ) → NamesDrop plan drop → InRange drop
named-range plan None named = tt
named-range plan (Some x) named = (named.from, named.to)

row-range : (plan : ControllerPlan) (found : Option OrderRow)
    → ((row : OrderRow) → found ≡ Some row → NamesDrop plan row.input) → InRange (input_of found)
row-range plan None named = tt
row-range plan (Some row) named = named-range plan row.input (named row refl)

-- the drops that rows of a runnable plan name can be counted
pub plan-ranges : (plan : ControllerPlan) → IsRunnablePlan plan → (row : ℕ)
    → InRange (input_of (row_of plan row))
plan-ranges plan runs row =
    row-range plan (row_of plan row)
    (λ found is. (all-get (FitsPlan plan) plan.orders (row - 1) found runs.rows is).input)

-- one, where it is so
abbrev pub one_where : Bool → ℕ
one_where true = 1
one_where false = 0

-- how many exchanges with a drop these steps have
abbrev pub reads : ControllerPlan → ℕ → List ScanStep → ℕ
reads plan d [] = 0
reads plan d (step ∷ due) = one_where (brings_to plan d step) + reads plan d due

solved-counts : (segments : List Segment) (found : Option OrderRow) (s : ControllerState)
    → (solved segments found s).exchanges ≡ s.exchanges
solved-counts segments None s = refl
solved-counts segments (Some row) s = by (control_is_on s.solving.map row.control)
  where
    by : (b : Bool) → (if b then segment_solved segments row.segment s else s).exchanges
        ≡ s.exchanges
    by true = refl
    by false = refl

-- how many exchanges with a drop a state counts
abbrev pub counted : List ℕ → ℕ → ℕ
counted exchanges d = slice_index exchanges (d - 1)

set-counts : (xs : List ℕ) (x d n : ℕ) (b : Bool) → (x == d) ≡ b → length xs ≡ 32 → 1 ≤ x → x ≤ 32
    → 1 ≤ d → n ≡ counted xs x + 1
    → counted (slice_set xs (x - 1) n) d ≡ counted xs d + one_where b
set-counts xs x d n true is long from to first more =
    let same : x ≡ d = eqb-true x d is in
    let within : x - 1 < length xs = omega (arith, long, from, to) in
    ap (λ k. slice_index (slice_set xs (x - 1) n) (k - 1)) (sym same)
    ∙ (get_or-set_same xs (x - 1) n 0 within ∙ (more ∙ ap (λ k. counted xs k + 1) same))
set-counts xs x d n false is long from to first more =
    let apart : d - 1 ≢ x - 1 = λ same.
    let h : x ≡ d = omega (arith, same, from, first) in
    let no' : false ≡ true = sym is ∙ eq-eqb x d h in
    cc in
    let none : counted xs d ≡ counted xs d + 0 = omega arith in
    get_or-set_other xs (x - 1) (d - 1) n 0 apart ∙ none

-- what a step makes of the counts
pub record StepCounts (plan : ControllerPlan) (step : ScanStep) (old new : List ℕ) : Type 0 where
  pub long : length new ≡ 32
  pub each : (d : ℕ) → 1 ≤ d → counted new d ≡ counted old d + one_where (brings_to plan d step)

same-counts : (plan : ControllerPlan) (step : ScanStep) (old new : List ℕ) → length old ≡ 32
    → ((d : ℕ) → brings_to plan d step ≡ false) → new ≡ old → StepCounts plan step old new
same-counts plan step old new long none same = record {
  long = ap length same ∙ long;
  each = λ d first.
      let zero' : counted old d ≡ counted old d + 0 = omega arith in
      ap (λ (l : List ℕ). counted l d) same
      ∙ (zero' ∙ ap (λ b. counted old d + one_where b) (sym (none d)));
}

pub read-counts : (drops : List IoDrop) (input : Option ℕ) (s : ControllerState)
    → length s.exchanges ≡ 32 → InRange input → (d : ℕ) → 1 ≤ d
    → counted (read_in drops input s).exchanges d
    ≡ counted s.exchanges d + one_where (reads_drop input d)
read-counts drops None s long range d first = omega arith
read-counts drops (Some x) s long range d first =
    set-counts s.exchanges x d (counted s.exchanges x + 1) (x == d) refl long range.0 range.1 first
    refl

pub read-long : (drops : List IoDrop) (input : Option ℕ) (s : ControllerState)
    → length s.exchanges ≡ 32 → length (read_in drops input s).exchanges ≡ 32
read-long drops None s long = long
read-long drops (Some x) s long =
    length-set s.exchanges (x - 1) (slice_index s.exchanges (x - 1) + 1) ∙ long

module _ (plan : ControllerPlan) (scan_time watchdog n : ℕ) (pd : List IoDrop)
    (ranges : (row : ℕ) → InRange (input_of (row_of plan row))) where
  -- the run of a plan with these drops
  abbrev pub run : Fixed
  run = fixed_with (record plan { drops = pd }) scan_time watchdog n

  abbrev pub stepped : ControllerState → ScanStep → ControllerState
  stepped s step = apply run s (entry_of run s step)

  pub step-counts : (step : ScanStep) (s : ControllerState) → length s.exchanges ≡ 32
      → StepCounts plan step s.exchanges (stepped s step).exchanges
  step-counts steps.Begin s long =
      same-counts plan steps.Begin s.exchanges _ long (λ d. refl) refl
  step-counts (steps.In row) s long = record {
    long = read-long pd (input_of (row_of plan row)) s long;
    each = read-counts pd (input_of (row_of plan row)) s long (ranges row);
  }
  step-counts (steps.Solve row) s long =
      same-counts plan (steps.Solve row) s.exchanges _ long (λ d. refl)
      (solved-counts plan.segments (row_of plan row) s)
  step-counts (steps.Out row) s long =
      same-counts plan (steps.Out row) s.exchanges _ long (λ d. refl) refl
  step-counts steps.End s long =
      same-counts plan steps.End s.exchanges _ long (λ d. refl) refl
  step-counts steps.Fail s long =
      same-counts plan steps.Fail s.exchanges _ long (λ d. refl) refl
  step-counts steps.Dark s long =
      same-counts plan steps.Dark s.exchanges _ long (λ d. refl) refl

  -- what steps make of the counts
  pub record RunCounts (due : List ScanStep) (s after : ControllerState) : Type 0 where
    pub long : length after.exchanges ≡ 32
    pub low : (d : ℕ) → 1 ≤ d → counted s.exchanges d ≤ counted after.exchanges d
    pub high : (d : ℕ) → 1 ≤ d
        → counted after.exchanges d ≤ counted s.exchanges d + reads plan d due
    pub all : after.stop ≡ 0 → (d : ℕ) → 1 ≤ d
        → counted after.exchanges d ≡ counted s.exchanges d + reads plan d due

  counts-by : (step : ScanStep) (due : List ScanStep) (s after : ControllerState) (b : Bool)
      → (s.stop == 0) ≡ b → length s.exchanges ≡ 32 → RunCounts due (stepped s step) after
      → RunCounts (step ∷ due) s (if b then after else s)
  counts-by step due s after true is long more =
      let one = step-counts step s long in
      record {
        long = more.long;
        low = λ d first.
            let here = one.each d first in
            let low = more.low d first in
            omega (arith, here, low);
        high = λ d first.
            let here = one.each d first in
            let high = more.high d first in
            omega (arith, here, high);
        all = λ goes d first.
            let here = one.each d first in
            let all = more.all goes d first in
            omega (arith, here, all);
      }
  counts-by step due s after false is long more = record {
    long = long;
    low = λ d first. omega arith;
    high = λ d first. omega arith;
    all = λ goes d first. absurd (let no' : true ≡ false = sym (eq-eqb s.stop 0 goes) ∙ is in cc);
  }

  pub run-counts : (due : List ScanStep) (s : ControllerState) → length s.exchanges ≡ 32
      → RunCounts due s (run_steps run s due)
  unfolding run_steps
  run-counts [] s long = record {
    long = long;
    low = λ d first. omega arith;
    high = λ d first. omega arith;
    all = λ goes d first. omega arith;
  }
  run-counts (step ∷ due) s long =
      counts-by step due s (run_steps run (stepped s step) due) (s.stop == 0) refl long
      (run-counts due (stepped s step) (step-counts step s long).long)

-- ---- scans of a run

-- the drops do not matter to what is due
pub due-same : (plan : ControllerPlan) (drops : List IoDrop)
    → full_scan (record plan { drops = drops }) ≡ full_scan plan
unfolding rows_from
due-same plan drops = refl

module _ (stays : KeptPowerStays) (plan : ControllerPlan) (keeps : KeepsPower plan)
    (scan_time watchdog : ℕ) (pd : List IoDrop)
    (ranges : (row : ℕ) → InRange (input_of (row_of plan row))) where
  abbrev pub after : ℕ → ControllerState
  after n = state_after (record plan { drops = pd }) scan_time watchdog n

  pub next-state : (m n : ℕ) → after (n + 1)
      ≡ run_steps (run plan scan_time watchdog m pd ranges) (after n) (full_scan plan)
  next-state m n =
      let played : ControllerPlan = record plan { drops = pd } in
      let is-due : due played (1 + n) ≡ full_scan plan =
      ap (due_with played) (stays played (1 + n) keeps) ∙ due-same plan pd in
      after-more played scan_time watchdog n
      ∙ (same-run played scan_time watchdog n m (after n) (due played (1 + n))
      ∙ ap (run_steps (fixed_with played scan_time watchdog m) (after n)) is-due)

  no-scans : after 0 ≡ start plan
  unfolding entries_from
  no-scans = refl

  pub after-long : (n : ℕ) → length (after n).exchanges ≡ 32
  after-long zero = ap (λ (s : ControllerState). length s.exchanges) no-scans
  after-long (suc n) =
      let e : suc n ≡ n + 1 = omega arith in
      ap (λ (s : ControllerState). length s.exchanges) (ap after e ∙ next-state 1 n)
      ∙ (run-counts plan scan_time watchdog 1 pd ranges (full_scan plan) (after n) (after-long
      n)).long

  pub none-made : (d : ℕ) → counted (after 0).exchanges d ≡ 0
  none-made d = ap (λ (s : ControllerState). counted s.exchanges d) no-scans ∙ zeros-at 32 (d - 1)
    where
      zeros-at : (k i : ℕ) → slice_index (replicate {A = ℕ} k 0) i ≡ 0
      zeros-at zero i = refl
      zeros-at (suc k) zero = refl
      zeros-at (suc k) (suc i) = zeros-at k i

  -- what one scan makes of the counts
  pub scan-counts : (n : ℕ)
      → RunCounts plan scan_time watchdog 1 pd ranges (full_scan plan) (after n) (after (n + 1))
  scan-counts n =
      subst (RunCounts plan scan_time watchdog 1 pd ranges (full_scan plan) (after n))
      (sym (next-state 1 n))
      (run-counts plan scan_time watchdog 1 pd ranges (full_scan plan) (after n) (after-long n))

  -- a controller that goes on after a scan went on before it
  pub went-on : (n : ℕ) → (after (n + 1)).stop ≡ 0 → (after n).stop ≡ 0
  went-on n goes = by ((after n).stop == 0) refl
    where
      by : (b : Bool) → ((after n).stop == 0) ≡ b → (after n).stop ≡ 0
      by true is = eqb-true (after n).stop 0 is
      by false is =
          let same = next-state 1 n
          ∙ run-stopped (run plan scan_time watchdog 1 pd ranges) (after n) (full_scan plan) is in
          ap (λ (s : ControllerState). s.stop) (sym same) ∙ goes

  -- one that has stopped makes no more exchanges
  pub no-more : (n : ℕ) → ((after n).stop == 0) ≡ false → after (n + 1) ≡ after n
  no-more n is =
      next-state 1 n
      ∙ run-stopped (run plan scan_time watchdog 1 pd ranges) (after n) (full_scan plan) is
