-- Each scan of a run of the field is one with rows of the plan.
use Rattle.std.proofs.Common.{◌≡◌, ℕ, zero, suc, ◌+◌, ◌-◌, ◌≤◌, ◌<◌, Bool, true, false, ◌==◌, List}
use Rattle.std.proofs.Common.{[], ◌∷◌, ◌++◌, Option, Some, None, refl, sym, ap, ◌∙◌, subst, length}
use Rattle.std.proofs.Common.{arith, append-nil, min}
use Rattle.std.specs.Prelude.{fold, if◌then◌else◌, slice_get, slice_index}
use Rattle.std.specs.List.{AllZip, flat_map, range_with_len}
use Rattle.std.proofs.Math.Nat.{min-eq_left, min-le_right}
use Rattle.std.proofs.lemmas.Grind.{flat_map-append}
use Rattle.plant_types.specs.declared.drops.IoDrop.{IoDrop}
use Rattle.plant_types.specs.declared.drops.ScriptRow.{ScriptRow}
use Rattle.plant_types.specs.declared.network.Segment.{Segment}
use Rattle.plant_types.specs.declared.plan.ControllerPlan.{ControllerPlan}
use Rattle.plant_types.specs.declared.plan.OrderRow.{OrderRow}
use Rattle.plant_types.specs.Checks.{sizes_of}
use Rattle.plant_types.specs.Plans.{KeepsPower}
use Rattle.plant_types.specs.Store.{Contents}
use Rattle.scan_order.specs.declared.due.ScanStep.{ScanStep}
use Rattle.scan_order.specs.declared.due.ScanStep.TheVariants as steps
use Rattle.scan_order.specs.Due.{due, due_with, full_scan, rows_from, input_of, row_of}
use Rattle.scan_order.specs.Power.{KeptPowerStays}
use Rattle.traffic_cop.specs.Drops.{drop_named, exchanged_in, input_after}
use Rattle.traffic_cop.specs.Exchange.{exchanged_by, row_at}
use Rattle.controller_core.specs.LadderSolver.{segment_after, SolveState}
use Rattle.controller_core.specs.declared.entry.Entry.{Entry}
use Rattle.controller_core.specs.declared.fixed.Fixed.{Fixed}
use Rattle.controller_core.specs.Controller.{fixed_with}
use Rattle.controller_core.specs.Event.{entry_of}
use Rattle.controller_core.specs.Replay.{ControllerState, apply, begun, control_is_on, discretes_kept}
use Rattle.controller_core.specs.Replay.{read_in, segment_solved, solved, start}
use Rattle.controller_core.specs.Replay.{unpowered, watchdog_stop}
use Rattle.controller_core.specs.Run.{entries_from}
use Rattle.controller_core.specs.Scans.{all_due}
use Rattle.field_runs.specs.Field.{IsPlayedBy, state_after}
use Rattle.field_runs.specs.Scan.{brought_to, stepped_with, told_first, told_behind, behind_steps}
use Rattle.field_runs.specs.Told.{rows_in, rows_for, NamesRow, IsTold, AreTold, Agrees}
use Rattle.field_runs.specs.Told.{GoesOnTo}
use Rattle.field_runs.specs.Told.{FieldRunsAreScans}

-- ---- the state behind steps of a run

unfoldable pub run_steps : Fixed → ControllerState → List ScanStep → ControllerState
run_steps f s [] = s
run_steps f s (step ∷ due) =
    if s.stop == 0 then run_steps f (apply f s (entry_of f s step)) due else s

fold-by : (f : Fixed) (s x : ControllerState) (e : Entry) (es : List Entry) (b : Bool)
    → fold (apply f) (apply f s e) es ≡ x
    → fold (apply f) s (if b then e ∷ es else []) ≡ (if b then x else s)
fold-by f s x e es true same = same
fold-by f s x e es false same = refl

fold-run : (f : Fixed) (s : ControllerState) (due : List ScanStep)
    → fold (apply f) s (entries_from f s due) ≡ run_steps f s due
unfolding entries_from run_steps
fold-run f s [] = refl
fold-run f s (step ∷ due) =
    fold-by f s _ (entry_of f s step) (entries_from f (apply f s (entry_of f s step)) due)
    (s.stop == 0) (fold-run f (apply f s (entry_of f s step)) due)

pub run-stopped : (f : Fixed) (s : ControllerState) (due : List ScanStep) → (s.stop == 0) ≡ false
    → run_steps f s due ≡ s
unfolding run_steps
run-stopped f s [] is = refl
run-stopped f s (step ∷ due) is =
    ap (λ b. if b then run_steps f (apply f s (entry_of f s step)) due else s) is

append-by : (f : Fixed) (s x y : ControllerState) (ys : List ScanStep) (b : Bool)
    → (s.stop == 0) ≡ b → x ≡ run_steps f y ys
    → (if b then x else s) ≡ run_steps f (if b then y else s) ys
append-by f s x y ys true is same = same
append-by f s x y ys false is same = sym (run-stopped f s ys is)

run-append : (f : Fixed) (s : ControllerState) (xs ys : List ScanStep)
    → run_steps f s (xs ++ ys) ≡ run_steps f (run_steps f s xs) ys
unfolding run_steps
run-append f s [] ys = refl
run-append f s (x ∷ xs) ys =
    append-by f s _ _ ys (s.stop == 0) refl (run-append f (apply f s (entry_of f s x)) xs ys)

-- ---- how many scans it makes does not matter to a step

module _ (plan : ControllerPlan) (scan_time watchdog : ℕ) where
  same-step : (n m : ℕ) (s : ControllerState) (step : ScanStep)
      → apply (fixed_with plan scan_time watchdog n) s
      (entry_of (fixed_with plan scan_time watchdog n) s step)
      ≡ apply (fixed_with plan scan_time watchdog m) s
      (entry_of (fixed_with plan scan_time watchdog m) s step)
  same-step n m s steps.Begin = refl
  same-step n m s (steps.In row) = refl
  same-step n m s (steps.Solve row) = refl
  same-step n m s (steps.Out row) = refl
  same-step n m s steps.End = refl
  same-step n m s steps.Fail = refl
  same-step n m s steps.Dark = refl

  pub same-run : (n m : ℕ) (s : ControllerState) (due : List ScanStep)
      → run_steps (fixed_with plan scan_time watchdog n) s due
      ≡ run_steps (fixed_with plan scan_time watchdog m) s due
  unfolding run_steps
  same-run n m s [] = refl
  same-run n m s (step ∷ due) =
      ap (λ (q : ControllerState). if s.stop == 0 then q else s)
      (ap (λ (t : ControllerState). run_steps (fixed_with plan scan_time watchdog n) t due)
      (same-step n m s step)
      ∙ same-run n m (apply (fixed_with plan scan_time watchdog m) s
      (entry_of (fixed_with plan scan_time watchdog m) s step)) due)

  -- ---- one scan more

  range-more : (a n : ℕ) → range_with_len a (n + 1) ≡ range_with_len a n ++ (a + n) ∷ []
  range-more a zero = let e : a + 0 ≡ a = omega arith in ap (λ n. n ∷ []) (sym e)
  range-more a (suc n) =
      let long : suc n + 1 ≡ suc (n + 1) = omega arith in
      let far : a + 1 + n ≡ a + suc n = omega arith in
      ap (range_with_len a) long
      ∙ ap (λ (l : List ℕ). a ∷ l)
      (range-more (a + 1) n ∙ ap (λ k. range_with_len (a + 1) n ++ k ∷ []) far)

  due-more : (n : ℕ)
      → all_due (fixed_with plan scan_time watchdog (n + 1))
      ≡ all_due (fixed_with plan scan_time watchdog n) ++ due plan (1 + n)
  due-more n =
      ap (flat_map (due plan)) (range-more 1 n)
      ∙ (flat_map-append (due plan) (range_with_len 1 n) ((1 + n) ∷ [])
      ∙ ap (λ (l : List ScanStep). flat_map (due plan) (range_with_len 1 n) ++ l)
      (append-nil (due plan (1 + n))))

  after-run : (n : ℕ) → state_after plan scan_time watchdog n
      ≡ run_steps (fixed_with plan scan_time watchdog n) (start plan)
      (all_due (fixed_with plan scan_time watchdog n))
  after-run n =
      fold-run (fixed_with plan scan_time watchdog n) (start plan)
      (all_due (fixed_with plan scan_time watchdog n))

  pub after-more : (n : ℕ) → state_after plan scan_time watchdog (n + 1)
      ≡ run_steps (fixed_with plan scan_time watchdog n) (state_after plan scan_time watchdog n)
      (due plan (1 + n))
  after-more n =
      let f = fixed_with plan scan_time watchdog n in
      after-run (n + 1)
      ∙ (same-run (n + 1) n (start plan) (all_due (fixed_with plan scan_time watchdog (n + 1)))
      ∙ (ap (run_steps f (start plan)) (due-more n)
      ∙ (run-append f (start plan) (all_due f) (due plan (1 + n))
      ∙ ap (λ (s : ControllerState). run_steps f s (due plan (1 + n))) (sym (after-run n)))))

-- ---- what a drop is brought

-- a drop and the one that plays in its field
abbrev Both : Option IoDrop → Option IoDrop → Type 0
Both None None = Unit {0}
Both None (Some b) = ⊥
Both (Some a) None = ⊥
Both (Some a) (Some b) = IsPlayedBy a b

both-by : (a b : IoDrop) (x y : Option IoDrop) (p q : Bool) → p ≡ q → IsPlayedBy a b → Both x y
    → Both (if p then Some a else x) (if q then Some b else y)
both-by a b x y true true same one rest = one
both-by a b x y false false same one rest = rest
both-by a b x y true false same one rest = absurd (let no' : true ≡ false = same in cc)
both-by a b x y false true same one rest = absurd (let no' : false ≡ true = same in cc)

both-named : (drops played : List IoDrop) (number : ℕ) → AllZip IsPlayedBy drops played
    → Both (drop_named drops number) (drop_named played number)
unfolding drop_named
both-named [] [] number all = tt
both-named [] (b ∷ played) number all = absurd all
both-named (a ∷ drops) [] number all = absurd all
both-named (a ∷ drops) (b ∷ played) number all =
    let same : b.number ≡ a.number = ap (λ (d : IoDrop). d.number) all.0.others in
    both-by a b _ _ (a.number == number) (b.number == number)
    (ap (λ n. n == number) (sym same)) all.0 (both-named drops played number all.1)

pub get-some : {X : Type 0} (xs : List X) (i : ℕ) → i < length xs
    → (x : X) × (slice_get xs i ≡ Some x)
get-some [] i h = absurd (omega (arith, h))
get-some (x ∷ xs) zero h = (x, refl)
get-some (x ∷ xs) (suc i) h = get-some xs i (omega (arith, h))

pub get-within : {X : Type 0} (xs : List X) (i : ℕ) (x : X) → slice_get xs i ≡ Some x → i < length xs
get-within [] i x is = absurd (let no' : None ≡ Some x = is in cc)
get-within (y ∷ xs) zero x is = omega arith
get-within (y ∷ xs) (suc i) x is = let h = get-within xs i x is in omega (arith, h)

pub min-up : (k n : ℕ) → k ≤ n → min k n ≡ k
min-up k n h = min-eq_left h

min-in : (k n : ℕ) → 0 < n → min (k + 1) n - 1 < n
min-in k n h = let low = min-le_right (k + 1) n in omega (arith, low, h)

-- a script has a row of this number with what another brings
pub record Brings (script played : List ScriptRow) (k : ℕ) : Type 0 where
  pub number : ℕ
  pub from : 1 ≤ number
  pub to : number ≤ rows_in script
  pub same : row_at played (k + 1) ≡ row_at script number

rows-long : (script : List ScriptRow) (j : ℕ) → j < length script → j + 1 ≤ rows_in script
rows-long [] j h = absurd (omega (arith, h))
rows-long (row ∷ script) j h = omega (arith, h)

brings : (script played : List ScriptRow) (k : ℕ)
    → ((i : ℕ) (row : ScriptRow) → slice_get played i ≡ Some row
    → (j : ℕ) × (slice_get script j ≡ Some row))
    → (0 < length script → 0 < length played) → Brings script played k
brings [] [] k rows some = record { number = 1; from = omega arith; to = omega arith; same = refl }
brings (row ∷ script) [] k rows some = absurd (let h = some (omega arith) in omega (arith, h))
brings script (row ∷ played) k rows some =
    let at = get-some (row ∷ played) (min (k + 1) (length (row ∷ played)) - 1)
    (min-in k (length (row ∷ played)) (omega arith)) in
    let there = rows (min (k + 1) (length (row ∷ played)) - 1) at.0 at.1 in
    let within = get-within script there.0 at.0 there.1 in
    let up : min (there.0 + 1) (length script) ≡ there.0 + 1 =
    min-up (there.0 + 1) (length script) (omega (arith, within)) in
    let back : min (there.0 + 1) (length script) - 1 ≡ there.0 = omega (arith, up) in
    record {
      number = there.0 + 1;
      from = omega arith;
      to = rows-long script there.0 within;
      same = at.1 ∙ sym (ap (slice_get script) back ∙ there.1);
    }

-- a drop has a row of this number with what another of its field brings
pub record Exchanges (drop : Option IoDrop) (played : Option IoDrop) (k : ℕ) : Type 0 where
  pub number : ℕ
  pub from : 1 ≤ number
  pub to : number ≤ rows_for drop
  pub same : (m : Contents) → exchanged_in played (k + 1) m ≡ exchanged_in drop number m

exchanges : (drop played : Option IoDrop) (k : ℕ) → Both drop played → Exchanges drop played k
exchanges None None k b =
    record { number = 1; from = omega arith; to = omega arith; same = λ m. refl }
exchanges None (Some y) k b = absurd b
exchanges (Some x) None k b = absurd b
exchanges (Some x) (Some y) k b =
    let row = brings x.script y.script k b.rows b.some in
    let same-modules : y.modules ≡ x.modules = ap (λ (d : IoDrop). d.modules) b.others in
    record {
      number = row.number;
      from = row.from;
      to = row.to;
      same = λ m. λ i. exchanged_by (row.same i) (same-modules i) m;
    }

-- ---- a step of the run beside one with rows

segment-same : (segments : List Segment) (number : ℕ) (s t : ControllerState) → Agrees s t
    → Agrees (segment_solved segments number s) (segment_solved segments number t)
segment-same segments number s t r =
    record {
      solving = ap (segment_after segments number) r.solving;
      stop = λ i. if (segment_after segments number (r.solving i)).left == 0 then watchdog_stop
          else r.stop i;
    }

pub if-same : (s t s' t' : ControllerState) (b c : Bool) → b ≡ c → Agrees s t → Agrees s' t'
    → Agrees (if b then s' else s) (if c then t' else t)
if-same s t s' t' true true same r r' = r'
if-same s t s' t' false false same r r' = r
if-same s t s' t' true false same r r' = absurd (let no' : true ≡ false = same in cc)
if-same s t s' t' false true same r r' = absurd (let no' : false ≡ true = same in cc)

pub solved-same : (segments : List Segment) (row : Option OrderRow) (s t : ControllerState)
    → Agrees s t → Agrees (solved segments row s) (solved segments row t)
solved-same segments None s t r = r
solved-same segments (Some row) s t r =
    if-same s t (segment_solved segments row.segment s) (segment_solved segments row.segment t)
    (control_is_on s.solving.map row.control) (control_is_on t.solving.map row.control)
    (ap (λ (q : SolveState). control_is_on q.map row.control) r.solving) r
    (segment-same segments row.segment s t r)

module _ (plan : ControllerPlan) (scan_time watchdog n : ℕ) (played : List IoDrop)
    (all : AllZip IsPlayedBy plan.drops played) where
  -- the run, and the plan's own
  abbrev pub run_fixed : Fixed
  run_fixed = fixed_with (record plan { drops = played }) scan_time watchdog n

  abbrev pub own_fixed : Fixed
  own_fixed = fixed_with plan scan_time watchdog n

  -- a step that is told
  pub record Steps (step : ScanStep) (s t : ControllerState) : Type 0 where
    pub number : ℕ
    pub told : IsTold plan step number
    pub same : Agrees (apply run_fixed s (entry_of run_fixed s step))
        (stepped_with own_fixed number t step)

  read-steps : (drop : Option ℕ) (s t : ControllerState) → Agrees s t
      → (number : ℕ) × (NamesRow plan drop number
      × Agrees (read_in played drop s) (brought_to plan.drops drop number t))
  read-steps None s t r = (1, (tt, r))
  read-steps (Some drop) s t r =
      let k = slice_index s.exchanges (drop - 1) in
      let e = exchanges (drop_named plan.drops drop) (drop_named played drop) k
      (both-named plan.drops played drop all) in (
        e.number,
        (
          (e.from, e.to),
          record {
            solving = ap (λ (q : SolveState). record q { map = input_after played drop (k + 1) q.map })
                r.solving
                ∙ ap (λ (m : Contents). record t.solving { map = m }) (e.same t.solving.map);
            stop = r.stop;
          },
        ),
      )

  pub step-same : (step : ScanStep) (s t : ControllerState) → Agrees s t → Steps step s t
  step-same steps.Begin s t r = record {
    number = 1;
    told = tt;
    same = record { solving = ap (begun own_fixed) r.solving; stop = r.stop };
  }
  step-same (steps.In row) s t r =
      let e = read-steps (input_of (row_of plan row)) s t r in
      record { number = e.0; told = e.1.0; same = e.1.1 }
  step-same (steps.Solve row) s t r =
      record { number = 1; told = tt; same = solved-same plan.segments (row_of plan row) s t r }
  step-same (steps.Out row) s t r = record { number = 1; told = tt; same = r }
  step-same steps.End s t r = record {
    number = 1;
    told = tt;
    same = record { solving = ap (discretes_kept (sizes_of plan)) r.solving; stop = r.stop };
  }
  step-same steps.Fail s t r = record {
    number = 1;
    told = tt;
    same = record { solving = ap (unpowered plan) r.solving; stop = r.stop };
  }
  step-same steps.Dark s t r =
      record { number = 1; told = tt; same = record { solving = r.solving; stop = r.stop } }

  -- rows for a step and those behind it
  pub record Joins (step : ScanStep) (number : ℕ) (rest : List ℕ) : Type 0 where
    pub rows : List ℕ
    pub behind : told_behind step rows ≡ rest
    pub first : (t : ControllerState)
        → stepped_with own_fixed (told_first rows) t step ≡ stepped_with own_fixed number t step
    pub told : IsTold plan step number → IsTold plan step (told_first rows)

  joins : (step : ScanStep) (number : ℕ) (rest : List ℕ) → Joins step number rest
  joins steps.Begin number rest =
      record { rows = rest; behind = refl; first = λ t. refl; told = λ h. tt }
  joins (steps.In row) number rest =
      record { rows = number ∷ rest; behind = refl; first = λ t. refl; told = λ h. h }
  joins (steps.Solve row) number rest =
      record { rows = rest; behind = refl; first = λ t. refl; told = λ h. tt }
  joins (steps.Out row) number rest =
      record { rows = rest; behind = refl; first = λ t. refl; told = λ h. tt }
  joins steps.End number rest =
      record { rows = rest; behind = refl; first = λ t. refl; told = λ h. tt }
  joins steps.Fail number rest =
      record { rows = rest; behind = refl; first = λ t. refl; told = λ h. tt }
  joins steps.Dark number rest =
      record { rows = rest; behind = refl; first = λ t. refl; told = λ h. tt }

  -- ---- steps

  pub record Runs (due : List ScanStep) (s t : ControllerState) : Type 0 where
    pub rows : List ℕ
    pub told : AreTold plan due rows
    pub same : Agrees (run_steps run_fixed s due) (behind_steps own_fixed rows t due)

  steps-same : (due : List ScanStep) (s t : ControllerState) → Agrees s t → Runs due s t
  unfolding run_steps behind_steps
  steps-same [] s t r = record { rows = []; told = tt; same = r }
  steps-same (step ∷ due) s t r =
      let one = step-same step s t r in
      let more = steps-same due (apply run_fixed s (entry_of run_fixed s step))
      (stepped_with own_fixed one.number t step) one.same in
      let j = joins step one.number more.rows in
      record {
        rows = j.rows;
        told = (j.told one.told, subst (AreTold plan due) (sym j.behind) more.told);
        same = if-same s t _ _ (s.stop == 0) (t.stop == 0) (ap (λ k. k == 0) r.stop) r
            (subst (λ (q : ControllerState). Agrees (run_steps run_fixed (apply run_fixed s
            (entry_of run_fixed s step)) due) q)
            (λ i. behind_steps own_fixed (sym j.behind i) (sym (j.first t) i) due) more.same);
      }

  -- ---- a scan

  pub full-same : full_scan (record plan { drops = played }) ≡ full_scan plan
  unfolding rows_from
  full-same = refl

  pub scan-same : KeptPowerStays → KeepsPower plan
      → GoesOnTo own_fixed (state_after (record plan { drops = played }) scan_time watchdog n)
      (state_after (record plan { drops = played }) scan_time watchdog (n + 1))
  scan-same stays keeps =
      let other : ControllerPlan = record plan { drops = played } in
      let s = state_after other scan_time watchdog n in
      let is-due : due other (1 + n) ≡ full_scan plan =
      ap (due_with other) (stays other (1 + n) keeps) ∙ full-same in
      let whole : state_after other scan_time watchdog (n + 1)
      ≡ run_steps run_fixed s (full_scan plan) =
      after-more other scan_time watchdog n ∙ ap (run_steps run_fixed s) is-due in
      let runs = steps-same (full_scan plan) s s (record { solving = refl; stop = refl }) in
      record {
        rows = runs.rows;
        told = runs.told;
        agrees = record {
          solving = ap (λ (q : ControllerState). q.solving) whole ∙ runs.same.solving;
          stop = ap (λ (q : ControllerState). q.stop) whole ∙ runs.same.stop;
        };
      }

-- a run of no scan
starts-same : (plan : ControllerPlan) (scan_time watchdog : ℕ) (played : List IoDrop)
    → state_after (record plan { drops = played }) scan_time watchdog 0 ≡ start plan
unfolding entries_from
starts-same plan scan_time watchdog played = refl

pub field-runs : KeptPowerStays → FieldRunsAreScans
field-runs stays = record {
  starts = λ plan played scan_time watchdog plays.
      subst (λ (p : ControllerPlan). state_after p scan_time watchdog 0 ≡ start plan)
      (sym plays.others) (starts-same plan scan_time watchdog played.drops);
  scans = λ plan played scan_time watchdog scans keeps plays.
      subst (λ (p : ControllerPlan). GoesOnTo (fixed_with plan scan_time watchdog scans)
      (state_after p scan_time watchdog scans) (state_after p scan_time watchdog (scans + 1)))
      (sym plays.others)
      (scan-same plan scan_time watchdog scans played.drops plays.drops stays keeps);
}
