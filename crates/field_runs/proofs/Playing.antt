-- A run with scripts of what is told, step by step.
use Rattle.std.proofs.Common.{◌≡◌, ◌≢◌, ℕ, zero, suc, ◌+◌, ◌-◌, ◌≤◌, ◌<◌, Bool, true, false, ◌==◌}
use Rattle.std.proofs.Common.{List, [], ◌∷◌, ◌++◌, Option, Some, None, refl, sym, ap, ◌∙◌, subst}
use Rattle.std.proofs.Common.{length, arith, append_assoc, map, take}
use Rattle.std.specs.Prelude.{if◌then◌else◌, slice_index, slice_set, replicate}
use Rattle.std.proofs.lemmas.Bool.{eqb-true, eq-eqb}
use Rattle.std.proofs.lemmas.List.{get_or-set_same, get_or-set_other, length-set}
use Rattle.plant_types.specs.declared.drops.IoDrop.{IoDrop}
use Rattle.plant_types.specs.declared.network.Segment.{Segment}
use Rattle.plant_types.specs.declared.plan.ControllerPlan.{ControllerPlan}
use Rattle.plant_types.specs.declared.plan.OrderRow.{OrderRow}
use Rattle.plant_types.specs.Plans.{KeepsPower}
use Rattle.plant_types.specs.Store.{Contents}
use Rattle.scan_order.specs.declared.due.ScanStep.{ScanStep}
use Rattle.scan_order.specs.declared.due.ScanStep.TheVariants as steps
use Rattle.scan_order.specs.Due.{due, due_with, full_scan, input_of, row_of}
use Rattle.scan_order.specs.Power.{KeptPowerStays}
use Rattle.traffic_cop.specs.Drops.{input_after}
use Rattle.traffic_cop.specs.Rows.{FitsPlan, NamesDrop}
use Rattle.controller_core.specs.LadderSolver.{SolveState}
use Rattle.controller_core.specs.declared.fixed.Fixed.{Fixed}
use Rattle.controller_core.specs.Event.{entry_of}
use Rattle.controller_core.specs.Replay.{ControllerState, apply, control_is_on, exchanged, read_in}
use Rattle.controller_core.specs.Replay.{segment_solved, solved, start}
use Rattle.controller_core.specs.Run.{entries_from}
use Rattle.field_runs.specs.Field.{state_after}
use Rattle.field_runs.specs.Scan.{brought_to, stepped_with, told_first, told_behind, behind_steps}
use Rattle.field_runs.specs.Scan.{rest_of, scanned}
use Rattle.field_runs.specs.Told.{NamesRow, IsTold, AreTold, Agrees}
use Rattle.field_runs.specs.Played.{behind_scans, AreScansTold, IsPlayed, ScansAreFieldRuns}
use Rattle.field_runs.specs.Played.{brings_to, one_if, reads_drop, told_in, told_to, with_script}
use Rattle.field_runs.proofs.Runs.{run_steps, run-stopped, after-more, same-run, full-same}
use Rattle.field_runs.proofs.Runs.{step-same, run_fixed, Steps}
use Rattle.field_runs.proofs.Settling.{all-get}
use Rattle.field_runs.proofs.Scripts.{Fits}
use Rattle.field_runs.proofs.Scripts.{all-played, input-played}

-- a drop that can be counted
abbrev InRange : Option ℕ → Type 0
InRange None = Unit {0}
InRange (Some x) = (1 ≤ x) × (x ≤ 32)

solved-counts : (segments : List Segment) (found : Option OrderRow) (s : ControllerState)
    → (solved segments found s).exchanges ≡ s.exchanges
solved-counts segments None s = refl
solved-counts segments (Some row) s = by (control_is_on s.solving.map row.control)
  where
    by : (b : Bool) → (if b then segment_solved segments row.segment s else s).exchanges
        ≡ s.exchanges
    by true = refl
    by false = refl

zeros-at : (n i : ℕ) → slice_index (replicate n 0) i ≡ 0
zeros-at zero i = refl
zeros-at (suc n) zero = refl
zeros-at (suc n) (suc i) = zeros-at n i

length-more : (xs : List ℕ) (x : ℕ) → length (xs ++ x ∷ []) ≡ length xs + 1
length-more [] x = refl
length-more (y ∷ xs) x = let h = length-more xs x in omega (arith, h)

pub stopped-steps : (fixed : Fixed) (rows : List ℕ) (t : ControllerState) (due : List ScanStep)
    → (t.stop == 0) ≡ false → behind_steps fixed rows t due ≡ t
unfolding behind_steps
stopped-steps fixed rows t [] is = refl
stopped-steps fixed rows t (step ∷ due) is =
    ap (λ b. if b then behind_steps fixed (told_behind step rows)
    (stepped_with fixed (told_first rows) t step) due else t) is

module _ (fixed : Fixed) (told : List (List ℕ)) (all : AreScansTold fixed.plan told)
    (ranges : (row : ℕ) → InRange (input_of (row_of fixed.plan row))) where
  abbrev drops : List IoDrop
  drops = map (with_script fixed.plan told) fixed.plan.drops

  abbrev run : Fixed
  run = run_fixed fixed.plan fixed.scan_time fixed.watchdog fixed.scans drops
      (all-played fixed.plan told fixed.plan.drops)

  -- as many exchanges were made with a drop as rows of it were told, and these are left
  pub record Waits (s : ControllerState) (left : ℕ → List ℕ) : Type 0 where
    pub long : length s.exchanges ≡ 32
    pub each : (d : ℕ) → 1 ≤ d → d ≤ 32 → (done : List ℕ)
        × ((slice_index s.exchanges (d - 1) ≡ length done)
        × (told_in fixed.plan d told ≡ done ++ left d))

  waits-same : (s s' : ControllerState) (left : ℕ → List ℕ) → s'.exchanges ≡ s.exchanges
      → Waits s left → Waits s' left
  waits-same s s' left same w = record {
    long = ap length same ∙ w.long;
    each = λ d from to.
        let e = w.each d from to in
        (e.0, (ap (λ (l : List ℕ). slice_index l (d - 1)) same ∙ e.1.0, e.1.1));
  }

  waits-left : (s : ControllerState) (left left' : ℕ → List ℕ)
      → ((d : ℕ) → left d ≡ left' d) → Waits s left → Waits s left'
  waits-left s left left' same w = record {
    long = w.long;
    each = λ d from to.
        let e = w.each d from to in
        (e.0, (e.1.0, e.1.1 ∙ ap (λ (l : List ℕ). e.0 ++ l) (same d)));
  }

  pub record Kept (s t : ControllerState) (left : ℕ → List ℕ) : Type 0 where
    pub agrees : Agrees s t
    pub waits : Waits s left

  -- ---- an exchange

  count-by : (s : ControllerState) (x n d : ℕ) (left : ℕ → List ℕ) (b : Bool) → (x == d) ≡ b
      → length s.exchanges ≡ 32 → 1 ≤ x → x ≤ 32 → 1 ≤ d
      → (done : List ℕ) × ((slice_index s.exchanges (d - 1) ≡ length done)
      × (told_in fixed.plan d told ≡ done ++ (one_if b n ++ left d)))
      → (done : List ℕ) × ((slice_index (slice_set s.exchanges (x - 1)
      (slice_index s.exchanges (x - 1) + 1)) (d - 1) ≡ length done)
      × (told_in fixed.plan d told ≡ done ++ left d))
  count-by s x n d left true is long from to first e =
      let same : x ≡ d = eqb-true x d is in
      let within : x - 1 < length s.exchanges = omega (arith, long, from, to) in (
        e.0 ++ n ∷ [],
        (
          ap (λ k. slice_index (slice_set s.exchanges (x - 1) (slice_index s.exchanges (x - 1) + 1))
              (k - 1)) (sym same)
              ∙ (get_or-set_same s.exchanges (x - 1) (slice_index s.exchanges (x - 1) + 1) 0 within
              ∙ (ap (λ k. slice_index s.exchanges (k - 1) + 1) same
              ∙ (ap (λ k. k + 1) e.1.0 ∙ sym (length-more e.0 n)))),
          e.1.1 ∙ sym (append_assoc e.0 (n ∷ []) (left d)),
        ),
      )
  count-by s x n d left false is long from to first e =
      let apart : d - 1 ≢ x - 1 = λ same.
      let h : x ≡ d = omega (arith, same, from, first) in
      let no' : false ≡ true = sym is ∙ eq-eqb x d h in
      cc in (
        e.0,
        (
          get_or-set_other s.exchanges (x - 1) (d - 1) (slice_index s.exchanges (x - 1) + 1) 0 apart
              ∙ e.1.0,
          e.1.1,
        ),
      )

  exchange-keeps : (x n : ℕ) (s t : ControllerState) (left : ℕ → List ℕ) → Agrees s t
      → Waits s (λ d. one_if (x == d) n ++ left d) → Fits fixed.plan x n → 1 ≤ x → x ≤ 32
      → Kept (exchanged drops x s) (brought_to fixed.plan.drops (Some x) n t) left
  exchange-keeps x n s t left r w fits from to =
      let e = w.each x from to in
      let own : (x == x) ≡ true = eq-eqb x x refl in
      let next : told_in fixed.plan x told ≡ e.0 ++ n ∷ left x =
      e.1.1 ∙ ap (λ b. e.0 ++ (one_if b n ++ left x)) own in
      record {
        agrees = record {
          solving = ap (λ (q : SolveState). record q {
            map = input_after drops x (slice_index s.exchanges (x - 1) + 1) q.map;
          }) r.solving
              ∙ (ap (λ k. record t.solving { map = input_after drops x (k + 1) t.solving.map })
              e.1.0
              ∙ ap (λ (m : Contents). record t.solving { map = m })
              (input-played fixed.plan told all x n e.0 (left x) next fits t.solving.map));
          stop = r.stop;
        };
        waits = record {
          long = length-set s.exchanges (x - 1) (slice_index s.exchanges (x - 1) + 1) ∙ w.long;
          each = λ d first last.
              count-by s x n d left (x == d) refl w.long from to first (w.each d first last);
        };
      }

  in-keeps : (drop : Option ℕ) (n : ℕ) (s t : ControllerState) (left : ℕ → List ℕ) → Agrees s t
      → Waits s (λ d. one_if (reads_drop drop d) n ++ left d) → NamesRow fixed.plan drop n
      → InRange drop
      → Kept (read_in drops drop s) (brought_to fixed.plan.drops drop n t) left
  in-keeps None n s t left r w fits range = record { agrees = r; waits = w }
  in-keeps (Some x) n s t left r w fits range =
      exchange-keeps x n s t left r w fits range.0 range.1

  -- ---- a step

  -- what is left behind a step
  abbrev left_of : List ScanStep → List ℕ → (ℕ → List ℕ) → ℕ → List ℕ
  left_of due rows later d = told_to fixed.plan d due rows ++ later d

  plain : (step : ScanStep) (due : List ScanStep) (rows : List ℕ) (s t : ControllerState)
      (later : ℕ → List ℕ) → (apply run s (entry_of run s step)).exchanges ≡ s.exchanges
      → ((d : ℕ) → left_of (step ∷ due) rows later d ≡ left_of due (told_behind step rows) later d)
      → Waits s (left_of (step ∷ due) rows later)
      → Waits (apply run s (entry_of run s step)) (left_of due (told_behind step rows) later)
  plain step due rows s t later same left w =
      waits-same s (apply run s (entry_of run s step)) (left_of due (told_behind step rows) later)
      same
      (waits-left s (left_of (step ∷ due) rows later) (left_of due (told_behind step rows) later)
      left w)

  -- a step beside one with rows, as of any run of the field
  abbrev beside : (step : ScanStep) (s t : ControllerState) → Agrees s t
      → Steps fixed.plan fixed.scan_time fixed.watchdog fixed.scans drops
      (all-played fixed.plan told fixed.plan.drops) step s t
  beside step s t r =
      step-same fixed.plan fixed.scan_time fixed.watchdog fixed.scans drops
      (all-played fixed.plan told fixed.plan.drops) step s t r

  step-keeps : (step : ScanStep) (due : List ScanStep) (rows : List ℕ) (s t : ControllerState)
      (later : ℕ → List ℕ) → Agrees s t → Waits s (left_of (step ∷ due) rows later)
      → IsTold fixed.plan step (told_first rows)
      → Kept (apply run s (entry_of run s step)) (stepped_with fixed (told_first rows) t step)
      (left_of due (told_behind step rows) later)
  unfolding told_to
  step-keeps steps.Begin due rows s t later r w is = record {
    agrees = (beside steps.Begin s t r).same;
    waits = plain steps.Begin due rows s t later refl (λ d. refl) w;
  }
  step-keeps (steps.In row) due rows s t later r w is =
      in-keeps (input_of (row_of fixed.plan row)) (told_first rows) s t
      (left_of due (rest_of rows) later) r
      (waits-left s (left_of (steps.In row ∷ due) rows later) _
      (λ d. append_assoc (one_if (brings_to fixed.plan d (steps.In row)) (told_first rows))
      (told_to fixed.plan d due (rest_of rows)) (later d)) w)
      is (ranges row)
  step-keeps (steps.Solve row) due rows s t later r w is = record {
    agrees = (beside (steps.Solve row) s t r).same;
    waits = plain (steps.Solve row) due rows s t later
        (solved-counts fixed.plan.segments (row_of fixed.plan row) s) (λ d. refl) w;
  }
  step-keeps (steps.Out row) due rows s t later r w is = record {
    agrees = (beside (steps.Out row) s t r).same;
    waits = plain (steps.Out row) due rows s t later refl (λ d. refl) w;
  }
  step-keeps steps.End due rows s t later r w is = record {
    agrees = (beside steps.End s t r).same;
    waits = plain steps.End due rows s t later refl (λ d. refl) w;
  }
  step-keeps steps.Fail due rows s t later r w is = record {
    agrees = (beside steps.Fail s t r).same;
    waits = plain steps.Fail due rows s t later refl (λ d. refl) w;
  }
  step-keeps steps.Dark due rows s t later r w is = record {
    agrees = (beside steps.Dark s t r).same;
    waits = plain steps.Dark due rows s t later refl (λ d. refl) w;
  }

  -- ---- steps

  -- what is kept as long as the controller goes on
  pub record Goes (s t : ControllerState) (left : ℕ → List ℕ) : Type 0 where
    pub agrees : Agrees s t
    pub waits : (s.stop == 0) ≡ true → Waits s left

  if-goes : (s t s' t' : ControllerState) (left : ℕ → List ℕ) (b : Bool) → (s.stop == 0) ≡ b
      → Agrees s t → (b ≡ true → Goes s' t' left)
      → Goes (if b then s' else s) (if b then t' else t) left
  if-goes s t s' t' left true is r goes = goes refl
  if-goes s t s' t' left false is r goes = record {
    agrees = r;
    waits = λ on. absurd (let no' : false ≡ true = sym is ∙ on in cc);
  }

  steps-keep : (due : List ScanStep) (rows : List ℕ) (s t : ControllerState) (later : ℕ → List ℕ)
      → Agrees s t → Waits s (left_of due rows later) → AreTold fixed.plan due rows
      → Goes (run_steps run s due) (behind_steps fixed rows t due) later
  unfolding run_steps behind_steps told_to
  steps-keep [] rows s t later r w is = record { agrees = r; waits = λ on. w }
  steps-keep (step ∷ due) rows s t later r w is =
      let one = step-keeps step due rows s t later r w is.0 in
      subst (λ c. Goes (if s.stop == 0 then run_steps run (apply run s (entry_of run s step)) due
      else s) (if c then behind_steps fixed (told_behind step rows)
      (stepped_with fixed (told_first rows) t step) due else t) later)
      (ap (λ k. k == 0) r.stop)
      (if-goes s t _ _ later (s.stop == 0) refl r
      (λ on. steps-keep due (told_behind step rows) (apply run s (entry_of run s step))
      (stepped_with fixed (told_first rows) t step) later one.agrees one.waits is.1))

  -- ---- scans

  abbrev later_in : List (List ℕ) → ℕ → List ℕ
  later_in left d = told_in fixed.plan d left

  unfoldable run_scans : ℕ → ControllerState → ControllerState
  run_scans zero s = s
  run_scans (suc k) s = run_scans k (run_steps run s (full_scan fixed.plan))

  run-more : (k : ℕ) (s : ControllerState)
      → run_scans (k + 1) s ≡ run_steps run (run_scans k s) (full_scan fixed.plan)
  unfolding run_scans
  run-more zero s = refl
  run-more (suc k) s =
      let e : suc k + 1 ≡ suc (k + 1) = omega arith in
      ap (λ n. run_scans n s) e ∙ run-more k (run_steps run s (full_scan fixed.plan))

  scan-keeps : (rows : List ℕ) (left : List (List ℕ)) (s t : ControllerState) (b : Bool)
      → (s.stop == 0) ≡ b → Goes s t (later_in (rows ∷ left))
      → AreTold fixed.plan (full_scan fixed.plan) rows
      → Goes (run_steps run s (full_scan fixed.plan)) (scanned fixed rows t) (later_in left)
  scan-keeps rows left s t true is g told' =
      steps-keep (full_scan fixed.plan) rows s t (later_in left) g.agrees (g.waits is) told'
  scan-keeps rows left s t false is g told' =
      let stays = run-stopped run s (full_scan fixed.plan) is in
      let also = stopped-steps fixed rows t (full_scan fixed.plan)
      (ap (λ k. k == 0) (sym g.agrees.stop) ∙ is) in
      subst (λ (q : ControllerState). Goes q (scanned fixed rows t) (later_in left)) (sym stays)
      (subst (λ (q : ControllerState). Goes s q (later_in left)) (sym also) (record {
        agrees = g.agrees;
        waits = λ on. absurd (let no' : false ≡ true = sym is ∙ on in cc);
      }))

  scans-keep : (left : List (List ℕ)) (s t : ControllerState) → Goes s t (later_in left)
      → AreScansTold fixed.plan left → (k : ℕ) → k ≤ length left
      → Agrees (run_scans k s) (behind_scans fixed (take k left) t)
  unfolding run_scans
  scans-keep left s t g told' zero few = g.agrees
  scans-keep [] s t g told' (suc k) few = absurd (omega (arith, few))
  scans-keep (rows ∷ left) s t g told' (suc k) few =
      scans-keep left (run_steps run s (full_scan fixed.plan)) (scanned fixed rows t)
      (scan-keeps rows left s t (s.stop == 0) refl g told'.0) told'.1 k (omega (arith, few))

  abbrev played : ControllerPlan
  played = record fixed.plan { drops = drops }

  none-run : state_after played fixed.scan_time fixed.watchdog 0 ≡ start played
  unfolding entries_from
  none-run = refl

  run-is : KeptPowerStays → KeepsPower fixed.plan → (n : ℕ)
      → state_after played fixed.scan_time fixed.watchdog n ≡ run_scans n (start played)
  unfolding run_scans
  run-is stays keeps zero = none-run
  run-is stays keeps (suc n) =
      let e : suc n ≡ n + 1 = omega arith in
      let is-due : due played (1 + n) ≡ full_scan fixed.plan =
      ap (due_with played) (stays played (1 + n) keeps)
      ∙ full-same fixed.plan fixed.scan_time fixed.watchdog fixed.scans drops
      (all-played fixed.plan told fixed.plan.drops) in
      ap (state_after played fixed.scan_time fixed.watchdog) e
      ∙ (after-more played fixed.scan_time fixed.watchdog n
      ∙ (same-run played fixed.scan_time fixed.watchdog n fixed.scans
      (state_after played fixed.scan_time fixed.watchdog n) (due played (1 + n))
      ∙ (ap (run_steps run (state_after played fixed.scan_time fixed.watchdog n)) is-due
      ∙ (ap (λ (q : ControllerState). run_steps run q (full_scan fixed.plan))
      (run-is stays keeps n)
      ∙ (sym (run-more n (start played)) ∙ ap (λ k. run_scans k (start played)) (sym e))))))

  starts : Goes (start played) (start fixed.plan) (later_in told)
  starts = record {
    agrees = record { solving = refl; stop = refl };
    waits = λ on. record {
      long = refl;
      each = λ d from to. ([], (zeros-at 32 (d - 1), refl));
    };
  }

  pub plays : KeptPowerStays → KeepsPower fixed.plan → IsPlayed fixed told
  plays stays keeps = record {
    plays = record { others = refl; drops = all-played fixed.plan told fixed.plan.drops };
    same = λ scans few.
        subst (λ (q : ControllerState). Agrees q
        (behind_scans fixed (take scans told) (start fixed.plan)))
        (sym (run-is stays keeps scans))
        (scans-keep told (start played) (start fixed.plan) starts all scans few);
  }

-- the drops that rows of a runnable plan name can be counted
named-range : (plan : ControllerPlan) (drop : Option ℕ) → NamesDrop plan drop → InRange drop
named-range plan None named = tt
named-range plan (Some x) named = (named.from, named.to)

row-range : (plan : ControllerPlan) (found : Option OrderRow)
    → ((row : OrderRow) → found ≡ Some row → NamesDrop plan row.input) → InRange (input_of found)
row-range plan None named = tt
row-range plan (Some row) named = named-range plan row.input (named row refl)

pub scans-run : KeptPowerStays → ScansAreFieldRuns
scans-run stays fixed told runs keeps all =
    plays fixed told all
    (λ row. row-range fixed.plan (row_of fixed.plan row)
    (λ found is. (all-get (FitsPlan fixed.plan) fixed.plan.orders (row - 1) found runs.rows is).input))
    stays keeps
