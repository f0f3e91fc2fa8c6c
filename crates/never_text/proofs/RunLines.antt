-- The panel lines of a run, scan by scan.
use Rattle.std.proofs.Common.{◌≡◌, ◌<◌, ℕ, zero, suc, ◌+◌, ◌==◌, Bool, true, false, List, [], ◌∷◌}
use Rattle.std.proofs.Common.{◌++◌, refl, sym, ap, subst, ◌∙◌, arith, append_assoc, append-nil, map}
use Rattle.std.proofs.lemmas.Grind.{flat_map-append}
use Rattle.std.proofs.lemmas.List.{map-append}
use Rattle.std.specs.Prelude.{fold, if◌then◌else◌}
use Rattle.std.specs.List.{concat, flat_map, range_with_len}
use Rattle.plant_types.specs.declared.plan.ControllerPlan.{ControllerPlan}
use Rattle.plant_types.specs.Plans.{KeepsPower}
use Rattle.scan_order.specs.declared.due.ScanStep.{ScanStep}
use Rattle.scan_order.specs.Due.{due, due_with, full_scan}
use Rattle.scan_order.specs.Power.{KeptPowerStays}
use Rattle.controller_core.specs.declared.fixed.Fixed.{Fixed}
use Rattle.controller_core.specs.declared.entry.Entry.{Entry}
use Rattle.controller_core.specs.Controller.{fixed_with}
use Rattle.controller_core.specs.Event.{entry_of, step_of}
use Rattle.controller_core.specs.Panel.{line_of_step, line_text, lines_from, panel_lines}
use Rattle.controller_core.specs.Replay.{ControllerState, apply, start}
use Rattle.controller_core.specs.Run.{entries_from, run_of}
use Rattle.controller_core.specs.Scans.{scans_from}
use Rattle.controller_core.proofs.NextEntry.{replay_append}
use Rattle.field_runs.specs.Field.{state_after}
use Rattle.field_runs.proofs.Runs.{after-more, run_steps, same-run}
use Rattle.whole_scan.proofs.ScanSteps.{entries-none}
use Rattle.never_text.proofs.OneScan.{full-line, scan_told, OneLine}

-- ---- entries and lines of steps after others

fold-by : (f : Fixed) (s x : ControllerState) (e : Entry) (es : List Entry) (b : Bool)
    → fold (apply f) (apply f s e) es ≡ x
    → fold (apply f) s (if b then e ∷ es else []) ≡ (if b then x else s)
fold-by f s x e es true same = same
fold-by f s x e es false same = refl

fold-run : (f : Fixed) (s : ControllerState) (due : List ScanStep)
    → fold (apply f) s (entries_from f s due) ≡ run_steps f s due
unfolding entries_from run_steps
fold-run f s [] = refl
fold-run f s (step ∷ due) =
    fold-by f s _ (entry_of f s step) (entries_from f (apply f s (entry_of f s step)) due)
    (s.stop == 0) (fold-run f (apply f s (entry_of f s step)) due)

more-by : (f : Fixed) (s : ControllerState) (e : Entry) (ys : List ScanStep)
    (whole front : List Entry) (b : Bool) → (s.stop == 0) ≡ b
    → whole ≡ front ++ entries_from f (fold (apply f) (apply f s e) front) ys
    → (if b then e ∷ whole else [])
    ≡ (if b then e ∷ front else [])
    ++ entries_from f (fold (apply f) s (if b then e ∷ front else [])) ys
more-by f s e ys whole front true is same = ap (λ (l : List Entry). e ∷ l) same
more-by f s e ys whole front false is same = sym (entries-none f s ys is)

entries-both : (f : Fixed) (s : ControllerState) (xs ys : List ScanStep)
    → entries_from f s (xs ++ ys)
    ≡ entries_from f s xs ++ entries_from f (fold (apply f) s (entries_from f s xs)) ys
unfolding entries_from
entries-both f s [] ys = refl
entries-both f s (x ∷ xs) ys =
    let e = entry_of f s x in
    more-by f s e ys (entries_from f (apply f s e) (xs ++ ys)) (entries_from f (apply f s e) xs)
    (s.stop == 0) refl (entries-both f (apply f s e) xs ys)

lines-both : (f : Fixed) (s : ControllerState) (front rest : List Entry)
    → lines_from f s (front ++ rest)
    ≡ lines_from f s front ++ lines_from f (fold (apply f) s front) rest
unfolding lines_from
lines-both f s [] rest = refl
lines-both f s (entry ∷ front) rest =
    let after = apply f s entry in
    let this = line_of_step f.plan (step_of entry) after in
    ap (λ (lines : List (List ℕ)). this ++ lines) (lines-both f after front rest)
    ∙ sym (append_assoc this (lines_from f after front) _)

-- ---- numbers from one on

range-more : (a n : ℕ) → range_with_len a (suc n) ≡ range_with_len a n ++ (a + n) ∷ []
range-more a zero = let e : a + 0 ≡ a = omega arith in ap (λ n. n ∷ []) (sym e)
range-more a (suc n) =
    let far : a + 1 + n ≡ a + suc n = omega arith in
    ap (λ (l : List ℕ). a ∷ l)
    (range-more (a + 1) n ∙ ap (λ k. range_with_len (a + 1) n ++ k ∷ []) far)

pub concat-map : {X : Type 0} (f : X → List ℕ) (xs : List X) → concat (map f xs) ≡ flat_map f xs
concat-map f [] = refl
concat-map f (x ∷ xs) = ap (λ (l : List ℕ). f x ++ l) (concat-map f xs)

module _ (plan : ControllerPlan) (scan_time watchdog scans : ℕ) where
  abbrev run : Fixed
  run = fixed_with plan scan_time watchdog scans

  -- the state after so many scans, and its entries
  abbrev pub after : ℕ → ControllerState
  after n = state_after plan scan_time watchdog n

  abbrev entries : ℕ → List Entry
  entries n = entries_from run (start plan) (scans_from run 1 n)

  abbrev more : ℕ → List Entry
  more n = entries_from run (after n) (due plan (1 + n))

  scans-more : (n : ℕ) → scans_from run 1 (suc n) ≡ scans_from run 1 n ++ due plan (1 + n)
  scans-more n =
      ap (flat_map (due plan)) (range-more 1 n)
      ∙ (flat_map-append (due plan) (range_with_len 1 n) ((1 + n) ∷ [])
      ∙ ap (λ (l : List ScanStep). flat_map (due plan) (range_with_len 1 n) ++ l)
      (append-nil (due plan (1 + n))))

  scan-state : (n : ℕ) → fold (apply run) (after n) (more n) ≡ after (suc n)
  scan-state n =
      let e : n + 1 ≡ suc n = omega arith in
      fold-run run (after n) (due plan (1 + n))
      ∙ (same-run plan scan_time watchdog scans n (after n) (due plan (1 + n))
      ∙ (sym (after-more plan scan_time watchdog n) ∙ ap after e))

  none-state : fold (apply run) (start plan) (entries 0) ≡ after 0
  unfolding entries_from
  none-state = refl

  entries-more : (n : ℕ) → fold (apply run) (start plan) (entries n) ≡ after n
      → entries (suc n) ≡ entries n ++ more n
  entries-more n is =
      ap (entries_from run (start plan)) (scans-more n)
      ∙ (entries-both run (start plan) (scans_from run 1 n) (due plan (1 + n))
      ∙ ap (λ (s : ControllerState). entries n ++ entries_from run s (due plan (1 + n))) is)

  state-at : (n : ℕ) → fold (apply run) (start plan) (entries n) ≡ after n
  state-at zero = none-state
  state-at (suc n) =
      let is = state-at n in
      ap (fold (apply run) (start plan)) (entries-more n is)
      ∙ (replay_append run (start plan) (entries n) (more n)
      ∙ (ap (λ (s : ControllerState). fold (apply run) s (more n)) is ∙ scan-state n))

  -- the line of a scan, by the state after it
  abbrev pub line-at : ℕ → List ℕ
  line-at n = line_text n plan.node (scan_told plan (after n))

  record HasLines (n : ℕ) : Type 0 where
    lines : lines_from run (start plan) (entries n) ≡ map line-at (range_with_len 1 n)
    gone : (after n).stop ≡ 0 → (after n).gone ≡ n

  no-lines : HasLines 0
  unfolding entries_from lines_from
  no-lines = record { lines = refl; gone = λ _. refl }

  module _ (stays : KeptPowerStays) (keeps : KeepsPower plan) where
    line-of : (n : ℕ) → (after n).stop ≡ 0 → OneLine run (after n) (more n)
    line-of n goes =
        let is : due plan (1 + n) ≡ full_scan plan =
        ap (due_with plan) (stays plan (1 + n) keeps) in
        subst (λ (l : List ScanStep). OneLine run (after n) (entries_from run (after n) l))
        (sym is) (full-line run (after n) goes)

    more-lines : (n : ℕ) → (after n).stop ≡ 0 → HasLines n → HasLines (suc n)
    more-lines n goes has =
        let one = line-of n goes in
        let next = scan-state n in
        let gone = has.gone goes in
        let count : n + 1 ≡ 1 + n = omega arith in
        let up : 1 + n ≡ suc n = omega arith in
        let line : lines_from run (after n) (more n) ≡ line-at (1 + n) ∷ [] =
        one.line
        ∙ (ap (λ (s : ControllerState). line_text ((after n).gone + 1) plan.node
        (scan_told plan s) ∷ []) next
        ∙ (ap (λ k. line_text (k + 1) plan.node (scan_told plan (after (suc n))) ∷ []) gone
        ∙ (ap (λ k. line_text k plan.node (scan_told plan (after (suc n))) ∷ []) count
        ∙ ap (λ k. line_text (1 + n) plan.node (scan_told plan (after k)) ∷ []) (sym up)))) in
        record {
          lines = ap (lines_from run (start plan)) (entries-more n (state-at n))
              ∙ (lines-both run (start plan) (entries n) (more n)
              ∙ (ap (λ (s : ControllerState). lines_from run (start plan) (entries n)
              ++ lines_from run s (more n)) (state-at n)
              ∙ (ap (λ (l : List (List ℕ)). l ++ lines_from run (after n) (more n)) has.lines
              ∙ (ap (λ (l : List (List ℕ)). map line-at (range_with_len 1 n) ++ l) line
              ∙ (sym (map-append line-at (range_with_len 1 n) ((1 + n) ∷ []))
              ∙ ap (map line-at) (sym (range-more 1 n)))))));
          gone = λ on.
              let here = one.gone (ap (λ (s : ControllerState). s.stop) next ∙ on) in
              sym (ap (λ (s : ControllerState). s.gone) next)
              ∙ (here ∙ (ap (λ k. k + 1) gone ∙ (count ∙ up)));
        }

    all-lines : (n : ℕ) → ((k : ℕ) → k < n → (after k).stop ≡ 0) → HasLines n
    all-lines zero goes = no-lines
    all-lines (suc n) goes =
        more-lines n (goes n (omega arith)) (all-lines n (λ k less. goes k (omega (arith, less))))

    -- the panel lines of a run that goes on up to its last scan
    pub run-each : ((k : ℕ) → k < scans → (after k).stop ≡ 0)
        → panel_lines run (run_of run) ≡ map line-at (range_with_len 1 scans)
    run-each goes = (all-lines scans goes).lines

    -- and its panel
    pub run-lines : ((k : ℕ) → k < scans → (after k).stop ≡ 0)
        → concat (panel_lines run (run_of run)) ≡ flat_map line-at (range_with_len 1 scans)
    run-lines goes = ap concat (run-each goes) ∙ concat-map line-at (range_with_len 1 scans)
