-- A run in which a field brings rows, beside scans with these rows.
use Rattle.std.proofs.Common.{◌≡◌, ℕ, ◌+◌, ◌≤◌, ◌<◌, Bool, true, false, ◌==◌, List}
use Rattle.std.proofs.Common.{[], ◌∷◌, Option, Some, None, refl, sym, ap, ◌∙◌, subst, length, arith}
use Rattle.std.specs.Prelude.{if◌then◌else◌, slice_get}
use Rattle.std.specs.List.{AllZip}
use Rattle.std.proofs.lemmas.Bool.{eq-eqb}
use Rattle.plant_types.specs.declared.drops.IoDrop.{IoDrop}
use Rattle.plant_types.specs.declared.plan.ControllerPlan.{ControllerPlan}
use Rattle.plant_types.specs.Checks.{sizes_of}
use Rattle.plant_types.specs.Plans.{KeepsPower}
use Rattle.plant_types.specs.Store.{Contents}
use Rattle.scan_order.specs.declared.due.ScanStep.{ScanStep}
use Rattle.scan_order.specs.declared.due.ScanStep.TheVariants as steps
use Rattle.scan_order.specs.Due.{full_scan, input_of, row_of}
use Rattle.scan_order.specs.Power.{KeptPowerStays}
use Rattle.traffic_cop.specs.Drops.{drop_named, exchanged_in, input_after}
use Rattle.traffic_cop.specs.Exchange.{exchanged_by, row_at}
use Rattle.ladder_solver.specs.State.{SolveState}
use Rattle.controller_core.specs.declared.fixed.Fixed.{Fixed}
use Rattle.controller_core.specs.Controller.{fixed_with}
use Rattle.controller_core.specs.Replay.{ControllerState, begun, discretes_kept, read_in}
use Rattle.controller_core.specs.Replay.{unpowered}
use Rattle.field_runs.specs.Field.{IsPlayedBy, state_after}
use Rattle.field_runs.specs.Scan.{behind_steps, brought_to, scanned, stepped_with, told_behind}
use Rattle.field_runs.specs.Scan.{told_first}
use Rattle.field_runs.specs.Told.{Agrees}
use Rattle.field_runs.proofs.Runs.{if-same, run_steps, solved-same}
use Rattle.side_runs.specs.Beside.{AreAlikeDrops, TakeOneField}
use Rattle.side_runs.specs.Brought.{behind_exchange, Brings, next_row, row_for, rows_told}
use Rattle.side_runs.specs.Brought.{ScanField}
use Rattle.side_runs.specs.Brought.{script_in}
use Rattle.side_runs.specs.Laws.{with_drops, BroughtRunsAreScans}
use Rattle.side_runs.proofs.Counting.{after-long, counted, due-same, InRange, next-state, one_where}
use Rattle.side_runs.proofs.Counting.{plan-ranges, read-counts, run, run-counts}
use Rattle.side_runs.proofs.Counting.{step-counts}
use Rattle.side_runs.proofs.Counting.{stepped}

-- ---- drops with the same modules

abbrev pub SameModules : Option IoDrop → Option IoDrop → Type 0
SameModules None None = Unit {0}
SameModules None (Some b) = ⊥
SameModules (Some a) None = ⊥
SameModules (Some a) (Some b) = a.modules ≡ b.modules

modules-by : (a b : IoDrop) (x y : Option IoDrop) (p q : Bool) → p ≡ q → a.modules ≡ b.modules
    → SameModules x y → SameModules (if p then Some a else x) (if q then Some b else y)
modules-by a b x y true true same one rest = one
modules-by a b x y false false same one rest = rest
modules-by a b x y true false same one rest = absurd (let no' : true ≡ false = same in cc)
modules-by a b x y false true same one rest = absurd (let no' : false ≡ true = same in cc)

-- a drop of a plan and the one that plays in its field
modules-played : (drops played : List IoDrop) (number : ℕ) → AllZip IsPlayedBy drops played
    → SameModules (drop_named drops number) (drop_named played number)
unfolding drop_named
modules-played [] [] number all = tt
modules-played [] (b ∷ played) number all = absurd all
modules-played (a ∷ drops) [] number all = absurd all
modules-played (a ∷ drops) (b ∷ played) number all =
    modules-by a b _ _ (a.number == number) (b.number == number)
    (ap (λ (d : IoDrop). d.number == number) (sym all.0.others))
    (ap (λ (d : IoDrop). d.modules) (sym all.0.others)) (modules-played drops played number all.1)

modules-then : (a b c : Option IoDrop) → AreAlikeDrops a b → SameModules b c → SameModules a c
modules-then None None c alike same = same
modules-then None (Some b) c alike same = absurd alike
modules-then (Some a) None c alike same = absurd alike
modules-then (Some a) (Some b) None alike same = absurd same
modules-then (Some a) (Some b) (Some c) alike same = alike.modules ∙ same

pub modules-same : (drops : List IoDrop) (plan : ControllerPlan) (pd : List IoDrop)
    → TakeOneField drops plan.drops → AllZip IsPlayedBy plan.drops pd → (number : ℕ)
    → SameModules (drop_named drops number) (drop_named pd number)
modules-same drops plan pd field plays number =
    modules-then (drop_named drops number) (drop_named plan.drops number) (drop_named pd number)
    (field number) (modules-played plan.drops pd number plays)

-- what two drops of the same modules are brought by the same row
brought-same : (a b : Option IoDrop) (j k : ℕ) (m : Contents) → SameModules a b
    → row_at (script_in b) k ≡ row_at (script_in a) j → exchanged_in b k m ≡ exchanged_in a j m
brought-same None None j k m same row = refl
brought-same None (Some b) j k m same row = absurd same
brought-same (Some a) None j k m same row = absurd same
brought-same (Some a) (Some b) j k m same row =
    let back : b.modules ≡ a.modules = sym same in
    λ i. exchanged_by (row i) (back i) m

module _ (plan : ControllerPlan) (scan_time watchdog n : ℕ) (drops pd : List IoDrop)
    (ranges : (row : ℕ) → InRange (input_of (row_of plan row)))
    (modules : (number : ℕ) → SameModules (drop_named drops number) (drop_named pd number)) where
  -- the controller with the drops whose rows the field brings
  abbrev own : Fixed
  own = fixed_with (record plan { drops = drops }) scan_time watchdog n

  abbrev play : Fixed
  play = run plan scan_time watchdog n pd ranges

  abbrev next : ControllerState → ScanStep → ControllerState
  next s step = stepped plan scan_time watchdog n pd ranges s step

  -- the exchanges up to certain counts read what a field brings
  abbrev pub Serves : List ℕ → (ℕ → ℕ) → ScanField → Type 0
  Serves exchanges end field =
      (d nth : ℕ) → 1 ≤ d → counted exchanges d + nth < end d
      → row_for pd d (counted exchanges d + nth + 1) ≡ row_for drops d (field d nth)

  -- ---- an exchange

  agrees-read : (input : Option ℕ) (s t : ControllerState) (end : ℕ → ℕ) (field : ScanField)
      → Agrees s t → Serves s.exchanges end field → InRange input → length s.exchanges ≡ 32
      → ((d : ℕ) → 1 ≤ d → counted (read_in pd input s).exchanges d ≤ end d)
      → Agrees (read_in pd input s) (brought_to drops input (next_row input field) t)
  agrees-read None s t end field r serves range long low = r
  agrees-read (Some x) s t end field r serves range long low =
      let k = counted s.exchanges x in
      let own' : (x == x) ≡ true = eq-eqb x x refl in
      let up : counted (read_in pd (Some x) s).exchanges x ≡ k + 1 =
      read-counts pd (Some x) s long range x range.0 ∙ ap (λ b. k + one_where b) own' in
      let reach = low x range.0 in
      let back : k + 0 + 1 ≡ k + 1 = omega arith in
      let row : row_for pd x (k + 1) ≡ row_for drops x (field x 0) =
      ap (row_for pd x) (sym back) ∙ serves x 0 range.0 (omega (arith, up, reach)) in
      record {
        solving = ap (λ (q : SolveState). record q { map = input_after pd x (k + 1) q.map })
            r.solving
            ∙ ap (λ (m : Contents). record t.solving { map = m })
            (brought-same (drop_named drops x) (drop_named pd x) (field x 0) (k + 1) t.solving.map
            (modules x) row);
        stop = r.stop;
      }

  serves-by : (x d nth : ℕ) (b : Bool) (old new : List ℕ) (end : ℕ → ℕ) (field : ScanField)
      → Serves old end field → 1 ≤ d → counted new d ≡ counted old d + one_where b
      → counted new d + nth < end d
      → row_for pd d (counted new d + nth + 1)
      ≡ row_for drops d (field d (if b then nth + 1 else nth))
  serves-by x d nth true old new end field serves first more within =
      let far : counted old d + (nth + 1) < end d = omega (arith, more, within) in
      let same : counted new d + nth + 1 ≡ counted old d + (nth + 1) + 1 = omega (arith, more) in
      ap (row_for pd d) same ∙ serves d (nth + 1) first far
  serves-by x d nth false old new end field serves first more within =
      let far : counted old d + nth < end d = omega (arith, more, within) in
      let same : counted new d + nth + 1 ≡ counted old d + nth + 1 = omega (arith, more) in
      ap (row_for pd d) same ∙ serves d nth first far

  serves-read : (input : Option ℕ) (s : ControllerState) (end : ℕ → ℕ) (field : ScanField)
      → Serves s.exchanges end field → InRange input → length s.exchanges ≡ 32
      → Serves (read_in pd input s).exchanges end (behind_exchange input field)
  serves-read None s end field serves range long = serves
  serves-read (Some x) s end field serves range long =
      λ d nth first within.
      serves-by x d nth (x == d) s.exchanges (read_in pd (Some x) s).exchanges end field serves
      first
      (read-counts pd (Some x) s long range d first) within

  -- ---- a step

  -- what is kept by a step
  record Kept (step : ScanStep) (due : List ScanStep) (field : ScanField) (s t : ControllerState)
      (end : ℕ → ℕ) : Type 0 where
    later : ScanField
    rows : told_behind step (rows_told plan (step ∷ due) field) ≡ rows_told plan due later
    agrees : Agrees (next s step)
        (stepped_with own (told_first (rows_told plan (step ∷ due) field)) t step)
    serves : Serves (next s step).exchanges end later

  -- where a step makes no exchange
  serves-same : (old new : List ℕ) (end : ℕ → ℕ) (field : ScanField)
      → ((d : ℕ) → 1 ≤ d → counted new d ≡ counted old d + 0) → Serves old end field
      → Serves new end field
  serves-same old new end field same serves =
      λ d nth first within.
      serves-by 0 d nth false old new end field serves first (same d first) within

  keep : (step : ScanStep) (due : List ScanStep) (field : ScanField) (s t : ControllerState)
      (end : ℕ → ℕ) → Agrees s t → Serves s.exchanges end field → length s.exchanges ≡ 32
      → ((d : ℕ) → 1 ≤ d → counted (next s step).exchanges d ≤ end d)
      → Kept step due field s t end
  keep steps.Begin due field s t end r serves long low = record {
    later = field;
    rows = refl;
    agrees = record { solving = ap (begun own) r.solving; stop = r.stop };
    serves = serves;
  }
  keep (steps.In row) due field s t end r serves long low =
      let input = input_of (row_of plan row) in
      record {
        later = behind_exchange input field;
        rows = refl;
        agrees = agrees-read input s t end field r serves (ranges row) long low;
        serves = serves-read input s end field serves (ranges row) long;
      }
  keep (steps.Solve row) due field s t end r serves long low = record {
    later = field;
    rows = refl;
    agrees = solved-same plan.segments (row_of plan row) s t r;
    serves = serves-same s.exchanges (next s (steps.Solve row)).exchanges end field
        (step-counts plan scan_time watchdog n pd ranges (steps.Solve row) s long).each serves;
  }
  keep (steps.Out row) due field s t end r serves long low = record {
    later = field;
    rows = refl;
    agrees = r;
    serves = serves;
  }
  keep steps.End due field s t end r serves long low = record {
    later = field;
    rows = refl;
    agrees = record { solving = ap (discretes_kept (sizes_of plan)) r.solving; stop = r.stop };
    serves = serves;
  }
  keep steps.Fail due field s t end r serves long low = record {
    later = field;
    rows = refl;
    agrees = record { solving = ap (unpowered plan) r.solving; stop = r.stop };
    serves = serves;
  }
  keep steps.Dark due field s t end r serves long low = record {
    later = field;
    rows = refl;
    agrees = record { solving = r.solving; stop = r.stop };
    serves = serves;
  }

  -- ---- steps

  abbrev end_of : ControllerState → ℕ → ℕ
  end_of s d = counted s.exchanges d

  -- where the controller goes on, or has stopped
  if-brought : (s t s' t' : ControllerState) (b : Bool) → (s.stop == 0) ≡ b → Agrees s t
      → (b ≡ true → Agrees s' t')
      → Agrees (if s.stop == 0 then s' else s) (if t.stop == 0 then t' else t)
  if-brought s t s' t' true is r goes =
      if-same s t s' t' (s.stop == 0) (t.stop == 0) (ap (λ k. k == 0) r.stop) r (goes refl)
  if-brought s t s' t' false is r goes =
      let also : (t.stop == 0) ≡ false = ap (λ k. k == 0) (sym r.stop) ∙ is in
      subst (λ b. Agrees (if b then s' else s) (if t.stop == 0 then t' else t)) (sym is)
      (subst (λ b. Agrees s (if b then t' else t)) (sym also) r)

  steps-brought : (due : List ScanStep) (s t : ControllerState) (field : ScanField) → Agrees s t
      → length s.exchanges ≡ 32 → Serves s.exchanges (end_of (run_steps play s due)) field
      → Agrees (run_steps play s due) (behind_steps own (rows_told plan due field) t due)
  unfolding run_steps behind_steps
  steps-brought [] s t field r long serves = r
  steps-brought (step ∷ due) s t field r long serves =
      if-brought s t (run_steps play (next s step) due) _ (s.stop == 0) refl r
      (λ goes.
      let counts = step-counts plan scan_time watchdog n pd ranges step s long in
      let whole : (if s.stop == 0 then run_steps play (next s step) due else s)
      ≡ run_steps play (next s step) due =
      ap (λ b. if b then run_steps play (next s step) due else s) goes in
      let served = subst (λ (q : ControllerState). Serves s.exchanges (end_of q) field) whole
      serves in
      let kept = keep step due field s t (end_of (run_steps play (next s step) due)) r served long
      (run-counts plan scan_time watchdog n pd ranges due (next s step) counts.long).low in
      subst (λ (rows : List ℕ). Agrees (run_steps play (next s step) due)
      (behind_steps own rows
      (stepped_with own (told_first (rows_told plan (step ∷ due) field)) t step) due))
      (sym kept.rows)
      (steps-brought due (next s step) _ kept.later kept.agrees counts.long kept.serves))

-- ---- a scan

-- where a plan's drops play in the field of another's and bring what a field brings
scan-brought : KeptPowerStays → (fixed : Fixed) (drops pd : List IoDrop) (fields : List ScanField)
    (scans : ℕ) (field : ScanField)
    (ranges : (row : ℕ) → InRange (input_of (row_of fixed.plan row))) → KeepsPower fixed.plan
    → TakeOneField drops fixed.plan.drops
    → Brings fixed drops fields (record fixed.plan { drops = pd })
    → slice_get fields scans ≡ Some field
    → Agrees (state_after (record fixed.plan { drops = pd }) fixed.scan_time fixed.watchdog (scans
    + 1))
    (scanned (with_drops drops fixed) (rows_told fixed.plan (full_scan fixed.plan) field)
    (state_after (record fixed.plan { drops = pd }) fixed.scan_time fixed.watchdog scans))
scan-brought stays fixed drops pd fields scans field ranges keeps one brings at =
    let plan = fixed.plan in
    let s = state_after (record plan { drops = pd }) fixed.scan_time fixed.watchdog scans in
    let after' = state_after (record plan { drops = pd }) fixed.scan_time fixed.watchdog (scans +
    1) in
    let is : after' ≡ run_steps (run plan fixed.scan_time fixed.watchdog fixed.scans pd ranges) s
    (full_scan plan) =
    next-state stays plan keeps fixed.scan_time fixed.watchdog pd ranges fixed.scans scans in
    let long = after-long stays plan keeps fixed.scan_time fixed.watchdog pd ranges scans in
    let all = steps-brought plan fixed.scan_time fixed.watchdog fixed.scans drops pd ranges
    (modules-same drops plan pd one brings.plays.drops) (full_scan plan) s s field
    (record { solving = refl; stop = refl }) long
    (λ d nth first within. brings.rows scans d nth field at (record {
      number = first;
      made = subst (λ (q : ControllerState). counted s.exchanges d + nth < counted q.exchanges d)
          (sym is) within;
    })) in
    subst (λ (q : ControllerState). Agrees q
    (scanned (with_drops drops fixed) (rows_told plan (full_scan plan) field) s)) (sym is)
    (subst (λ (due : List ScanStep). Agrees
    (run_steps (run plan fixed.scan_time fixed.watchdog fixed.scans pd ranges) s (full_scan plan))
    (behind_steps (with_drops drops fixed) (rows_told plan (full_scan plan) field) s due))
    (sym (due-same plan drops)) all)

pub brought-scans : KeptPowerStays → BroughtRunsAreScans
brought-scans stays fixed drops fields played scans field runs keeps one brings at =
    let plan = fixed.plan in
    subst (λ (p : ControllerPlan). Brings fixed drops fields p
    → Agrees (state_after p fixed.scan_time fixed.watchdog (scans + 1))
    (scanned (with_drops drops fixed) (rows_told plan (full_scan plan) field)
    (state_after p fixed.scan_time fixed.watchdog scans))) (sym brings.plays.others)
    (λ brings'. scan-brought stays fixed drops played.drops fields scans field
    (plan-ranges plan runs) keeps one brings' at) brings
