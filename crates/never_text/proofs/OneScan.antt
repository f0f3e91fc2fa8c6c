-- The panel line of one scan of a controller that keeps its power.
use Rattle.std.proofs.Common.{◌≡◌, ◌≢◌, ℕ, ◌+◌, ◌==◌, Bool, true, false, List, [], ◌∷◌, ◌++◌}
use Rattle.std.proofs.Common.{Option, refl, sym, ap, subst, ◌∙◌}
use Rattle.std.specs.Prelude.{codes, fold, if◌then◌else◌}
use Rattle.std.specs.Fmt.{decimal}
use Rattle.std.proofs.lemmas.Bool.{eq-eqb, ne_eqb}
use Rattle.plant_types.specs.declared.plan.ControllerPlan.{ControllerPlan}
use Rattle.scan_order.specs.declared.due.ScanStep.{ScanStep}
use Rattle.scan_order.specs.declared.due.ScanStep.TheVariants as steps
use Rattle.scan_order.specs.Due.{ends_scan, full_scan, rows_from}
use Rattle.controller_core.specs.declared.fixed.Fixed.{Fixed}
use Rattle.controller_core.specs.declared.entry.Entry.{Entry}
use Rattle.controller_core.specs.Event.{entry_of, step_of}
use Rattle.controller_core.specs.Panel.{lacks_power, line_of_step, line_text, lines_from}
use Rattle.controller_core.specs.Panel.{panel_line, values_told}
use Rattle.controller_core.specs.Replay.{ControllerState, apply}
use Rattle.controller_core.specs.Run.{entries_from}
use Rattle.controller_core.specs.Scans.{closes_scan}
use Rattle.controller_core.proofs.Keeping.{gone_made}
use Rattle.controller_core.proofs.RunLemmas.{step_of_made}
use Rattle.whole_scan.proofs.ScanEnds.{before-end, no-ends-before, IsNoEnd, NoEnds}
use Rattle.whole_scan.proofs.ScanSteps.{closes, entries-end, entries-first, entries-none}

-- what is told of a scan by the state after it
abbrev pub scan_told : ControllerPlan → ControllerState → List ℕ
scan_told plan s =
    if s.stop == 0 then values_told plan s else codes " STOP " ++ decimal s.stop

-- entries of a scan have one line, and the scan is gone unless it stopped the controller
pub record OneLine (f : Fixed) (s : ControllerState) (entries : List Entry) : Type 0 where
  pub line : lines_from f s entries
      ≡ line_text (s.gone + 1) f.plan.node (scan_told f.plan (fold (apply f) s entries)) ∷ []
  pub gone : (fold (apply f) s entries).stop ≡ 0 → (fold (apply f) s entries).gone ≡ s.gone + 1

line-made : (f : Fixed) (s : ControllerState) (step : ScanStep) (closed : Bool)
    → let after = apply f s (entry_of f s step) in
    closes_scan step after.stop ≡ closed
    → line_of_step f.plan (step_of (entry_of f s step)) after
    ≡ (if closed then panel_line f.plan step after ∷ [] else [])
line-made f s step closed is =
    let after = apply f s (entry_of f s step) in
    ap (λ (made : Option ScanStep). line_of_step f.plan made after) (step_of_made f s step)
    ∙ ap (λ (closed : Bool). if closed then panel_line f.plan step after ∷ [] else []) is

gone-by : (f : Fixed) (s : ControllerState) (step : ScanStep) (ends : Bool)
    → ends_scan step ≡ ends
    → (apply f s (entry_of f s step)).gone ≡ (if ends then s.gone + 1 else s.gone)
gone-by f s step ends is =
    gone_made f s step ∙ ap (λ (ends : Bool). if ends then s.gone + 1 else s.gone) is

-- a step that stops the controller
stop-line : (f : Fixed) (s : ControllerState) (step : ScanStep)
    → let after = apply f s (entry_of f s step) in
    closes_scan step after.stop ≡ true → IsNoEnd step → after.stop ≢ 0
    → OneLine f s (entry_of f s step ∷ [])
unfolding lines_from
stop-line f s step closed none stops =
    let after = apply f s (entry_of f s step) in
    let gone : after.gone ≡ s.gone = gone-by f s step false none in
    let off : (after.stop == 0) ≡ false = ne_eqb after.stop 0 stops in
    let stop = codes " STOP " ++ decimal after.stop in
    record {
      line = ap (λ (lines : List (List ℕ)). lines ++ []) (line-made f s step true closed)
          ∙ (ap (λ b. line_text (if b then after.gone else after.gone + 1) f.plan.node
          (if b then (if lacks_power step then codes " OFF" else values_told f.plan after)
          else stop) ∷ []) off
          ∙ (ap (λ n. line_text (n + 1) f.plan.node stop ∷ []) gone
          ∙ sym (ap (λ b. line_text (s.gone + 1) f.plan.node
          (if b then values_told f.plan after else stop) ∷ []) off)));
      gone = λ goes. absurd (stops goes);
    }

-- the end of a scan
end-line : (f : Fixed) (s : ControllerState) → s.stop ≡ 0
    → OneLine f s (entry_of f s steps.End ∷ [])
unfolding lines_from
end-line f s goes =
    let after = apply f s (entry_of f s steps.End) in
    record {
      line = ap (λ b. line_text (if b then s.gone + 1 else s.gone + 1 + 1) f.plan.node
          (scan_told f.plan after) ∷ []) (eq-eqb s.stop 0 goes);
      gone = λ _. refl;
    }

-- a step with which a scan goes on
next-line : (f : Fixed) (s : ControllerState) (step : ScanStep) (entries : List Entry)
    → let after = apply f s (entry_of f s step) in
    closes_scan step after.stop ≡ false → IsNoEnd step → OneLine f after entries
    → OneLine f s (entry_of f s step ∷ entries)
unfolding lines_from
next-line f s step entries closed none more =
    let after = apply f s (entry_of f s step) in
    let gone : after.gone ≡ s.gone = gone-by f s step false none in
    record {
      line = ap (λ (lines : List (List ℕ)). lines ++ lines_from f after entries)
          (line-made f s step false closed)
          ∙ (more.line
          ∙ ap (λ n. line_text (n + 1) f.plan.node
          (scan_told f.plan (fold (apply f) after entries)) ∷ []) gone);
      gone = λ goes. more.gone goes ∙ ap (λ n. n + 1) gone;
    }

one-scan : (f : Fixed) (s : ControllerState) (front : List ScanStep) → s.stop ≡ 0 → NoEnds front
    → OneLine f s (entries_from f s (front ++ steps.End ∷ []))
one-scan f s [] goes none =
    let after = apply f s (entry_of f s steps.End) in
    subst (OneLine f s)
    (sym (entries-first f s steps.End [] goes
    ∙ ap (λ (entries : List Entry). entry_of f s steps.End ∷ entries) (entries-end f after)))
    (end-line f s goes)
one-scan f s (step ∷ front) goes none =
    either (closes_scan step after.stop) refl (λ runs. one-scan f after front runs none.1)
  where
    after : ControllerState
    after = apply f s (entry_of f s step)

    rest : List ScanStep
    rest = front ++ steps.End ∷ []

    either : (closed : Bool) → closes_scan step after.stop ≡ closed
        → (after.stop ≡ 0 → OneLine f after (entries_from f after rest))
        → OneLine f s (entries_from f s (step ∷ rest))
    either true closed more =
        let stops = (closes f s step goes none.0).over closed in
        subst (OneLine f s)
        (sym (entries-first f s step rest goes
        ∙ ap (λ (entries : List Entry). entry_of f s step ∷ entries)
        (entries-none f after rest (ne_eqb after.stop 0 stops))))
        (stop-line f s step closed none.0 stops)
    either false closed more =
        subst (OneLine f s) (sym (entries-first f s step rest goes))
        (next-line f s step (entries_from f after rest) closed none.0
        (more ((closes f s step goes none.0).goes_on closed)))

-- a scan in which the power stays
pub full-line : (f : Fixed) (s : ControllerState) → s.stop ≡ 0
    → OneLine f s (entries_from f s (full_scan f.plan))
unfolding rows_from
full-line f s goes = one-scan f s (before-end f.plan) goes (no-ends-before f.plan)
