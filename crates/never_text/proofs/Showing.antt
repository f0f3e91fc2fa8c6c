-- Lines by what a run shows are its panel.
use Rattle.std.proofs.Common.{◌≡◌, ◌≤◌, ◌<◌, ◌≢◌, ◌==◌, ℕ, zero, suc, ◌+◌, ◌*◌, Bool, true, false}
use Rattle.std.proofs.Common.{◌&&◌, not, List, [], ◌∷◌, ◌++◌, refl, sym, ap, ◌∙◌, arith}
use Rattle.std.proofs.Common.{length, drop}
use native.Mathlib.Nat.{suc-mul}
use Rattle.std.proofs.Math.Seq.{drop-append_seam}
use Rattle.std.proofs.lemmas.Bool.{eqb-true, eq-eqb}
use Rattle.std.proofs.lemmas.List.{drop-drop, length-map}
use Rattle.std.specs.Prelude.{codes, if◌then◌else◌}
use Rattle.std.specs.Fmt.{decimal}
use Rattle.std.specs.List.{flat_map, range_with_len}
use Rattle.plant_types.specs.declared.plan.ControllerPlan.{ControllerPlan}
use Rattle.plant_types.specs.declared.reference.Ref.{Ref}
use Rattle.plant_types.specs.Store.{value_at, Contents}
use Rattle.plant_types.specs.Plans.{KeepsPower}
use Rattle.scan_order.specs.Power.{KeptPowerStays}
use Rattle.controller_core.specs.declared.fixed.Fixed.{Fixed}
use Rattle.controller_core.specs.NotedLines.{noted_texts}
use Rattle.controller_core.specs.Notes.{values_of}
use Rattle.controller_core.specs.Panel.{line_text, value_text, values_told}
use Rattle.controller_core.specs.Replay.{ControllerState}
use Rattle.panel_line.specs.Told.{stopped_told}
use Rattle.field_runs.specs.Played.{with_scripts}
use Rattle.field_machine.specs.declared.shown.Shown.{Shown}
use Rattle.field_machine.specs.Choices.{told_by}
use Rattle.field_machine.specs.Never.{state_of_run, told_in_ways}
use Rattle.field_machine.specs.Shown.{panel_after, IsShownBy}
use Rattle.scan_order.specs.Due.{full_scan}
use Rattle.never_text.specs.Lines.{shown_line, StopsNoSooner}
use Rattle.never_text.specs.Texts.{run_panel}
use Rattle.never_text.proofs.OneScan.{scan_told}
use Rattle.never_text.proofs.RunLines.{run-lines}

-- the first of some values are those of the panel
pub values-front : (m : Contents) (panel : List Ref) (rest : List ℕ)
    → noted_texts panel (values_of m panel ++ rest) ≡ flat_map (value_text m) panel
values-front m [] rest = refl
values-front m (at ∷ panel) rest =
    ap (λ (l : List ℕ). value_text m at ++ l) (values-front m panel rest)

-- the values of a scan among those of all
values-at : (f : ℕ → List ℕ) (width : ℕ) → ((k : ℕ) → length (f k) ≡ width) → (a n scan : ℕ)
    → scan < n
    → (rest : List ℕ) × (drop (scan * width) (flat_map f (range_with_len a n))
    ≡ f (a + scan) ++ rest)
values-at f width long a zero scan within = absurd (omega (arith, within))
values-at f width long a (suc n) zero within =
    let none : 0 * width ≡ 0 = omega arith in
    let here : a ≡ a + 0 = omega arith in
    let rest = flat_map f (range_with_len (a + 1) n) in (
      rest,
      ap (λ k. drop k (f a ++ rest)) none ∙ ap (λ k. f k ++ rest) here,
    )
values-at f width long a (suc n) (suc scan) within =
    let more : suc scan * width ≡ length (f a) + scan * width =
    omega (arith, suc-mul scan width, long a) in
    let rest = flat_map f (range_with_len (a + 1) n) in
    let next = values-at f width long (a + 1) n scan (omega (arith, within)) in
    let far : a + 1 + scan ≡ a + suc scan = omega arith in (
      next.0,
      ap (λ k. drop k (f a ++ rest)) more
          ∙ (sym (drop-drop (scan * width) (length (f a)) (f a ++ rest))
          ∙ (ap (drop (scan * width)) (drop-append_seam (f a) rest)
          ∙ (next.1 ∙ ap (λ k. f k ++ next.0) far))),
    )

-- lines of scans counted from 0 are those counted from 1
lines-same : (f g : ℕ → List ℕ) (a n : ℕ)
    → ((k : ℕ) → a ≤ k → k < a + n → f k ≡ g (k + 1))
    → flat_map f (range_with_len a n) ≡ flat_map g (range_with_len (a + 1) n)
lines-same f g a zero same = refl
lines-same f g a (suc n) same =
    λ i. same a (omega arith) (omega arith) i
    ++ lines-same f g (a + 1) n (λ k from to. same k (omega (arith, from)) (omega (arith, to))) i

module _ (fixed : Fixed) (ways : List ℕ) (shown : Shown) (are : IsShownBy fixed ways shown)
    (goes : StopsNoSooner fixed (told_in_ways fixed.plan ways)) where
  abbrev told : List (List ℕ)
  told = told_in_ways fixed.plan ways

  abbrev played : ControllerPlan
  played = with_scripts fixed.plan told

  abbrev after : ℕ → ControllerState
  after n = state_of_run fixed played n

  abbrev panel : List Ref
  panel = fixed.plan.panel

  abbrev line : ℕ → List ℕ
  line n = line_text n fixed.plan.node (scan_told played (after n))

  many : length told ≡ length ways
  many = length-map ways (told_by fixed.plan (full_scan fixed.plan))

  -- the values of a scan
  told-at : (scan : ℕ) → scan < length ways
      → noted_texts panel (drop (scan * length panel) shown.values.items)
      ≡ values_told played (after (scan + 1))
  told-at scan within =
      let part = values-at (panel_after fixed played) (length panel)
      (λ k. length-map panel (value_at (after k).solving.map)) 1 (length ways) scan within in
      let far : 1 + scan ≡ scan + 1 = omega arith in
      ap (λ (l : List ℕ). noted_texts panel (drop (scan * length panel) l)) are.values
      ∙ (ap (noted_texts panel) part.1
      ∙ (values-front (after (1 + scan)).solving.map panel part.0
      ∙ ap (λ k. values_told played (after k)) far))

  goes-line : (scan : ℕ) → scan < length ways → (after (scan + 1)).stop ≡ 0
      → line_text (scan + 1) fixed.plan.node
      (noted_texts panel (drop (scan * length panel) shown.values.items))
      ≡ line (scan + 1)
  goes-line scan within on =
      ap (line_text (scan + 1) fixed.plan.node) (told-at scan within)
      ∙ sym (ap (λ b. line_text (scan + 1) fixed.plan.node
      (if b then values_told played (after (scan + 1))
      else codes " STOP " ++ decimal (after (scan + 1)).stop)) (eq-eqb (after (scan + 1)).stop 0 on))

  line-by : (scan : ℕ) (stopped last : Bool) → scan < length ways → (shown.stop == 0) ≡ stopped
      → (scan + 1 == length ways) ≡ last
      → (if not stopped && last then line_text (length ways) fixed.plan.node
      (stopped_told shown.stop)
      else line_text (scan + 1) fixed.plan.node
      (noted_texts panel (drop (scan * length panel) shown.values.items)))
      ≡ line (scan + 1)
  line-by scan stopped false within off is =
      at stopped
    where
      apart : scan + 1 ≢ length ways
      apart e = let no' : true ≡ false = sym (eq-eqb (scan + 1) (length ways) e) ∙ is in cc

      less : scan + 1 < length told
      less = omega (arith, apart, many, within)

      at : (b : Bool)
          → (if not b && false then line_text (length ways) fixed.plan.node
          (stopped_told shown.stop)
          else line_text (scan + 1) fixed.plan.node
          (noted_texts panel (drop (scan * length panel) shown.values.items)))
          ≡ line (scan + 1)
      at true = goes-line scan within (goes (scan + 1) less)
      at false = goes-line scan within (goes (scan + 1) less)
  line-by scan true true within off is =
      let end : scan + 1 ≡ length ways = eqb-true (scan + 1) (length ways) is in
      let on : (after (scan + 1)).stop ≡ 0 =
      ap (λ k. (after k).stop) end ∙ (sym are.stop ∙ eqb-true shown.stop 0 off) in
      goes-line scan within on
  line-by scan false true within off is =
      let end : scan + 1 ≡ length ways = eqb-true (scan + 1) (length ways) is in
      let stop : shown.stop ≡ (after (scan + 1)).stop =
      are.stop ∙ sym (ap (λ k. (after k).stop) end) in
      ap (λ k. line_text k fixed.plan.node (stopped_told shown.stop)) (sym end)
      ∙ (ap (λ b. line_text (scan + 1) fixed.plan.node
      (if b then values_told played (after (scan + 1)) else stopped_told shown.stop)) (sym off)
      ∙ ap (λ k. line_text (scan + 1) fixed.plan.node
      (if k == 0 then values_told played (after (scan + 1)) else codes " STOP " ++ decimal k)) stop)

  pub shown-panel : KeptPowerStays → KeepsPower fixed.plan
      → flat_map (shown_line fixed.plan.node panel shown (length ways))
      (range_with_len 0 (length ways))
      ≡ run_panel fixed told
  shown-panel stays keeps =
      lines-same (shown_line fixed.plan.node panel shown (length ways)) line 0 (length ways)
      (λ k from to. line-by k (shown.stop == 0) (k + 1 == length ways) (omega (arith, to)) refl refl)
      ∙ (ap (λ n. flat_map line (range_with_len 1 n)) (sym many)
      ∙ sym (run-lines played fixed.scan_time fixed.watchdog (length told) stays keeps goes))
