-- Steps of a scan some whole seconds apart.
use Rattle.std.proofs.Common.{◌≡◌, ℕ, ◌+◌, ◌*◌, ◌/◌, ◌%◌, Bool, true, false, ◌==◌, List, [], ◌∷◌}
use Rattle.std.proofs.Common.{Option, Some, None, refl, sym, ap, ◌∙◌, arith, subst}
use Rattle.std.specs.Prelude.{if◌then◌else◌}
use Rattle.plant_types.specs.declared.drops.IoDrop.{IoDrop}
use Rattle.plant_types.specs.declared.network.Segment.{Segment}
use Rattle.plant_types.specs.declared.plan.OrderRow.{OrderRow}
use Rattle.plant_types.specs.Checks.{sizes_of}
use Rattle.plant_types.specs.Discretes.{discretes_on}
use Rattle.plant_types.specs.Sizes.{discretes}
use Rattle.scan_order.specs.declared.due.ScanStep.{ScanStep}
use Rattle.scan_order.specs.declared.due.ScanStep.TheVariants as steps
use Rattle.scan_order.specs.Due.{rows_from, input_of, row_of}
use Rattle.traffic_cop.specs.Drops.{input_after}
use Rattle.controller_core.specs.LadderSolver.{segment_after, SolveState}
use Rattle.alike_states.specs.Later.{later, SolvesAskNoHour}
use Rattle.controller_core.specs.declared.fixed.Fixed.{Fixed}
use Rattle.controller_core.specs.Event.{entry_of}
use Rattle.controller_core.specs.Replay.{ControllerState, apply, begun, control_is_on, solved}
use Rattle.controller_core.specs.Replay.{discretes_kept, segment_solved, unpowered}
use Rattle.controller_core.specs.Replay.{watchdog_stop}
use Rattle.field_runs.specs.Scan.{brought_to, stepped_with, told_first, told_behind, behind_steps}
use Rattle.field_runs.specs.Scan.{scanned}
use Rattle.field_runs.specs.Alike.{IsAlike, IsSettled, AlikeStatesStay}

-- two states are one state some whole seconds later, and have the same stop code
pub record AreLater (s t : ControllerState) : Type 0 where
  pub one : ℕ
  pub other : ℕ
  pub base : SolveState
  pub first : s.solving ≡ later one base
  pub second : t.solving ≡ later other base
  pub stop : s.stop ≡ t.stop

-- what does not ask the hour keeps it so
moved : (f : SolveState → SolveState)
    → ((seconds : ℕ) (base : SolveState) → f (later seconds base) ≡ later seconds (f base))
    → (s t s' t' : ControllerState) → AreLater s t → s'.solving ≡ f s.solving
    → t'.solving ≡ f t.solving → s'.stop ≡ t'.stop → AreLater s' t'
moved f same s t s' t' r at-s at-t stop =
    record {
      one = r.one;
      other = r.other;
      base = f r.base;
      first = at-s ∙ (ap f r.first ∙ same r.one r.base);
      second = at-t ∙ (ap f r.second ∙ same r.other r.base);
      stop = stop;
    }

-- a scan that began at these times
abbrev begun_at : Fixed → SolveState → ℕ → ℕ → SolveState
begun_at fixed base before now =
    record base { clock = record { before = before; now = now }; left = fixed.watchdog }

begun-later : (fixed : Fixed) (seconds : ℕ) (base : SolveState)
    → begun fixed (later seconds base) ≡ later seconds (begun fixed base)
begun-later fixed seconds base =
    let e : base.clock.now + 100 * seconds + fixed.scan_time
    ≡ base.clock.now + fixed.scan_time + 100 * seconds = omega arith in
    ap (begun_at fixed base (base.clock.now + 100 * seconds)) e

-- ---- one step

read-later : (drops : List IoDrop) (drop : Option ℕ) (row : ℕ) (s t : ControllerState)
    → AreLater s t → AreLater (brought_to drops drop row s) (brought_to drops drop row t)
read-later drops None row s t r = r
read-later drops (Some drop) row s t r =
    moved (λ (q : SolveState). record q { map = input_after drops drop row q.map })
    (λ seconds base. refl) s t (brought_to drops (Some drop) row s)
    (brought_to drops (Some drop) row t) r refl refl r.stop

stop-same : (one other : ℕ) (s t : ℕ) → one ≡ other → s ≡ t
    → (if one == 0 then watchdog_stop else s) ≡ (if other == 0 then watchdog_stop else t)
stop-same one other s t e i = λ j. if e j == 0 then watchdog_stop else i j

left-same : (seconds : ℕ) (base s : SolveState) → s ≡ later seconds base → s.left ≡ base.left
left-same seconds base s is = ap (λ (q : SolveState). q.left) is

module _ (asks : SolvesAskNoHour) where
  segment-later : (segments : List Segment) (number : ℕ) (s t : ControllerState) → AreLater s t
      → AreLater (segment_solved segments number s) (segment_solved segments number t)
  segment-later segments number s t r =
      let base = segment_after segments number r.base in
      let first : segment_after segments number s.solving ≡ later r.one base =
      ap (segment_after segments number) r.first ∙ asks segments number r.one r.base in
      let second : segment_after segments number t.solving ≡ later r.other base =
      ap (segment_after segments number) r.second ∙ asks segments number r.other r.base in
      record {
        one = r.one;
        other = r.other;
        base = base;
        first = first;
        second = second;
        stop = stop-same (segment_after segments number s.solving).left
            (segment_after segments number t.solving).left s.stop t.stop
            (left-same r.one base _ first ∙ sym (left-same r.other base _ second)) r.stop;
      }

  controlled : (segments : List Segment) (row : OrderRow) (s t : ControllerState) (b c : Bool)
      → b ≡ c → AreLater s t
      → AreLater (if b then segment_solved segments row.segment s else s)
      (if c then segment_solved segments row.segment t else t)
  controlled segments row s t true true same r = segment-later segments row.segment s t r
  controlled segments row s t false false same r = r
  controlled segments row s t true false same r = absurd (let no' : true ≡ false = same in cc)
  controlled segments row s t false true same r = absurd (let no' : false ≡ true = same in cc)

  solved-later : (segments : List Segment) (row : Option OrderRow) (s t : ControllerState)
      → AreLater s t → AreLater (solved segments row s) (solved segments row t)
  solved-later segments None s t r = r
  solved-later segments (Some row) s t r =
      let one : control_is_on s.solving.map row.control ≡ control_is_on r.base.map row.control =
      ap (λ (q : SolveState). control_is_on q.map row.control) r.first in
      let other : control_is_on t.solving.map row.control ≡ control_is_on r.base.map row.control =
      ap (λ (q : SolveState). control_is_on q.map row.control) r.second in
      controlled segments row s t _ _ (one ∙ sym other) r

  step-later : (fixed : Fixed) (brought : ℕ) (s t : ControllerState) (step : ScanStep)
      → AreLater s t → AreLater (stepped_with fixed brought s step) (stepped_with fixed brought t step)
  step-later fixed brought s t steps.Begin r =
      moved (begun fixed) (begun-later fixed) s t _ _ r refl refl r.stop
  step-later fixed brought s t (steps.In row) r =
      read-later fixed.plan.drops (input_of (row_of fixed.plan row)) brought s t r
  step-later fixed brought s t (steps.Solve row) r =
      solved-later fixed.plan.segments (row_of fixed.plan row) s t r
  step-later fixed brought s t (steps.Out row) r = r
  step-later fixed brought s t steps.End r =
      moved (discretes_kept (sizes_of fixed.plan)) (λ seconds base. refl) s t _ _ r refl refl r.stop
  step-later fixed brought s t steps.Fail r =
      moved (unpowered fixed.plan) (λ seconds base. refl) s t _ _ r refl refl r.stop
  step-later fixed brought s t steps.Dark r =
      moved (λ (q : SolveState). q) (λ seconds base. refl) s t _ _ r refl refl r.stop

  -- ---- steps

  going : (s t s' t' : ControllerState) (b c : Bool) → b ≡ c → AreLater s t → AreLater s' t'
      → AreLater (if b then s' else s) (if c then t' else t)
  going s t s' t' true true same r r' = r'
  going s t s' t' false false same r r' = r
  going s t s' t' true false same r r' = absurd (let no' : true ≡ false = same in cc)
  going s t s' t' false true same r r' = absurd (let no' : false ≡ true = same in cc)

  steps-later : (fixed : Fixed) (rows : List ℕ) (s t : ControllerState) (due : List ScanStep)
      → AreLater s t → AreLater (behind_steps fixed rows s due) (behind_steps fixed rows t due)
  unfolding behind_steps
  steps-later fixed rows s t [] r = r
  steps-later fixed rows s t (step ∷ due) r =
      going s t _ _ (s.stop == 0) (t.stop == 0) (ap (λ n. n == 0) r.stop) r
      (steps-later fixed (told_behind step rows) (stepped_with fixed (told_first rows) s step)
      (stepped_with fixed (told_first rows) t step) due
      (step-later fixed (told_first rows) s t step r))

  -- ---- a scan

  -- a clock is one within its second, some whole seconds later
  clock-is : (fixed : Fixed) (s base : SolveState) → base.map ≡ s.map → base.past ≡ s.past
      → base.edges ≡ s.edges → base.table ≡ s.table → base.clock.now ≡ s.clock.now % 100
      → begun fixed s ≡ later (s.clock.now / 100) (begun fixed base)
  clock-is fixed s base m p e t n =
      let before : s.clock.now ≡ base.clock.now + 100 * (s.clock.now / 100) = omega (arith, n) in
      let now : s.clock.now + fixed.scan_time
      ≡ base.clock.now + fixed.scan_time + 100 * (s.clock.now / 100) = omega (arith, n) in
      λ i. record {
        map = sym m i;
        past = sym p i;
        edges = sym e i;
        table = sym t i;
        clock = record { before = before i; now = now i };
        left = fixed.watchdog;
      }

  start-later : (fixed : Fixed) (s t : ControllerState) → IsSettled fixed.plan s
      → IsSettled fixed.plan t → IsAlike s t
      → AreLater (apply fixed s (entry_of fixed s steps.Begin))
      (apply fixed t (entry_of fixed t steps.Begin))
  start-later fixed s t settled-s settled-t alike =
      let base : SolveState = record s.solving {
        clock = record { before = 0; now = s.solving.clock.now % 100 };
      } in
      record {
        one = s.solving.clock.now / 100;
        other = t.solving.clock.now / 100;
        base = begun fixed base;
        first = clock-is fixed s.solving base refl refl refl refl refl;
        second = clock-is fixed t.solving base alike.references
            (settled-s.kept
            ∙ (ap (λ m. discretes_on (discretes (sizes_of fixed.plan) m)) alike.references
            ∙ sym settled-t.kept))
            alike.edges (settled-s.blocks ∙ sym settled-t.blocks) alike.clock;
        stop = alike.stop;
      }

  alike-later : (s t : ControllerState) → AreLater s t → IsAlike s t
  alike-later s t r =
      let one : s.solving.clock.now ≡ r.base.clock.now + 100 * r.one =
      ap (λ (q : SolveState). q.clock.now) r.first in
      let other : t.solving.clock.now ≡ r.base.clock.now + 100 * r.other =
      ap (λ (q : SolveState). q.clock.now) r.second in
      record {
        references = ap (λ (q : SolveState). q.map) r.first
            ∙ sym (ap (λ (q : SolveState). q.map) r.second);
        edges = ap (λ (q : SolveState). q.edges) r.first
            ∙ sym (ap (λ (q : SolveState). q.edges) r.second);
        stop = r.stop;
        clock = omega (arith, one, other);
      }

  scan-begins : (fixed : Fixed) (rows : List ℕ) (s : ControllerState) → s.stop ≡ 0
      → scanned fixed rows s
      ≡ behind_steps fixed rows (apply fixed s (entry_of fixed s steps.Begin))
      (rows_from fixed.plan 1)
  unfolding behind_steps
  scan-begins fixed rows s goes =
      ap (λ n. if n == 0
      then behind_steps fixed rows (apply fixed s (entry_of fixed s steps.Begin))
      (rows_from fixed.plan 1)
      else s) goes

  pub alike-stay : AlikeStatesStay
  alike-stay fixed rows s t settled-s settled-t goes alike =
      let r = steps-later fixed rows (apply fixed s (entry_of fixed s steps.Begin))
      (apply fixed t (entry_of fixed t steps.Begin)) (rows_from fixed.plan 1)
      (start-later fixed s t settled-s settled-t alike) in
      let one = scan-begins fixed rows s goes in
      let other = scan-begins fixed rows t (sym alike.stop ∙ goes) in
      subst (λ (q : ControllerState). IsAlike q (scanned fixed rows t)) (sym one)
      (subst (λ (q : ControllerState). IsAlike (behind_steps fixed rows
      (apply fixed s (entry_of fixed s steps.Begin)) (rows_from fixed.plan 1)) q) (sym other)
      (alike-later _ _ r))
