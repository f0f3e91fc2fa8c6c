-- Lines by what a search found are those of the runs.
use Rattle.std.proofs.Common.{◌≡◌, ℕ, zero, suc, ◌+◌, ◌-◌, ◌≤◌, ◌<◌, Bool, true, false, ◌==◌, List}
use Rattle.std.proofs.Common.{[]}
use Rattle.std.proofs.Common.{◌∷◌, ◌++◌, Option, refl, sym, ap, ◌∙◌, subst, arith, length, map}
use Rattle.std.proofs.Common.{drop}
use Rattle.std.proofs.Common.{append-nil, Vec, Global}
use Rattle.std.specs.Prelude.{codes, if◌then◌else◌}
use Rattle.std.specs.Fmt.{decimal}
use Rattle.std.specs.List.{concat, flat_map, range_with_len}
use Rattle.std.proofs.lemmas.List.{length-map}
use Rattle.plant_types.specs.declared.plan.ControllerPlan.{ControllerPlan}
use Rattle.plant_types.specs.declared.reference.Ref.{Ref}
use Rattle.plant_types.specs.Plans.{KeepsPower}
use Rattle.scan_order.specs.Power.{KeptPowerStays}
use Rattle.controller_core.specs.declared.fixed.Fixed.{Fixed}
use Rattle.controller_core.specs.NotedLines.{noted_texts}
use Rattle.controller_core.specs.Notes.{values_of}
use Rattle.controller_core.specs.Panel.{line_text, value_text, values_told}
use Rattle.controller_core.specs.Replay.{ControllerState}
use Rattle.panel_line.specs.Told.{stopped_told}
use Rattle.field_runs.specs.Field.{PlaysInField, state_after}
use Rattle.field_pair.specs.FieldMachine.{state_of_run, Exchange}
use Rattle.never_text.specs.Texts.{fails_line}
use Rattle.never_text.proofs.OneScan.{scan_told}
use Rattle.never_text.proofs.RunLines.{run-each}
use Rattle.never_text.proofs.Showing.{values-front}
use Rattle.field_pair.specs.declared.searching.Apart.{Apart}
use Rattle.field_pair.specs.declared.searching.PanelEnd.{PanelEnd}
use Rattle.field_pair.specs.Same.{ApartRuns, AreToldBy, IsFirstApart, IsPanelEnd}
use Rattle.same_text.specs.Texts.{apart_text, brought_lines, end_line, found_text, last_line}
use Rattle.same_text.proofs.Runs.{one-goes, other-goes, some-scans}

-- the last of so many lines
last-of : (f : ℕ → List ℕ) (a m : ℕ)
    → drop m (map f (range_with_len a (suc m))) ≡ f (a + m) ∷ []
last-of f a zero = let e : a ≡ a + 0 = omega arith in ap (λ n. f n ∷ []) e
last-of f a (suc m) =
    let e : a + 1 + m ≡ a + suc m = omega arith in
    last-of f (a + 1) m ∙ ap (λ n. f n ∷ []) e

last-line-of : (f : ℕ → List ℕ) (n : ℕ) → 1 ≤ n
    → concat (drop (n - 1) (map f (range_with_len 1 n))) ≡ f n
last-line-of f zero some = absurd (omega (arith, some))
last-line-of f (suc m) some =
    let back : suc m - 1 ≡ m = omega arith in
    let up : 1 + m ≡ suc m = omega arith in
    ap (λ k. concat (drop k (map f (range_with_len 1 (suc m))))) back
    ∙ (ap concat (last-of f 1 m) ∙ (append-nil (f (1 + m)) ∙ ap f up))

-- what an end tells is told of its state
told-by : (plan : ControllerPlan) (s : ControllerState) (end : PanelEnd) (b : Bool)
    → IsPanelEnd plan.panel s end
    → (if b then noted_texts plan.panel end.values.items else stopped_told end.stop)
    ≡ (if b then values_told plan s else codes " STOP " ++ decimal s.stop)
told-by plan s end true is =
    ap (noted_texts plan.panel) is.values
    ∙ (ap (noted_texts plan.panel) (sym (append-nil (values_of s.solving.map plan.panel)))
    ∙ values-front s.solving.map plan.panel [])
told-by plan s end false is = ap stopped_told is.stop

end-told : (plan : ControllerPlan) (s : ControllerState) (end : PanelEnd) (n : ℕ)
    → IsPanelEnd plan.panel s end
    → end_line plan end n ≡ line_text n plan.node (scan_told plan s)
end-told plan s end n is =
    ap (line_text n plan.node)
    (told-by plan s end (end.stop == 0) is
    ∙ ap (λ k. if k == 0 then values_told plan s else codes " STOP " ++ decimal s.stop) is.stop)

-- the line of an end is the last one of its run
end-line : KeptPowerStays → (fixed : Fixed) (played : ControllerPlan) (n : ℕ) (end : PanelEnd)
    → KeepsPower fixed.plan → PlaysInField fixed.plan played → 1 ≤ n
    → ((k : ℕ) → k < n → (state_of_run fixed played k).stop ≡ 0)
    → IsPanelEnd fixed.plan.panel (state_of_run fixed played n) end
    → end_line fixed.plan end n ≡ last_line fixed played n
end-line stays fixed played n end keeps plays some goes is =
    let keeps' : KeepsPower played =
    ap (λ (p : ControllerPlan). p.power) plays.others ∙ keeps in
    let s = state_of_run fixed played n in
    end-told fixed.plan s end n is
    ∙ (ap (λ (p : ControllerPlan). line_text n p.node (scan_told p s)) (sym plays.others)
    ∙ sym (ap (λ (l : List (List ℕ)). concat (drop (n - 1) l))
    (run-each played fixed.scan_time fixed.watchdog n stays keeps' goes)
    ∙ last-line-of
    (λ k. line_text k played.node
    (scan_told played (state_after played fixed.scan_time fixed.watchdog k))) n some))

-- the text of what was found is that of the runs
pub found-is : KeptPowerStays → (old new : Fixed) (limit : Option ℕ) (runs : ApartRuns)
    (apart : Apart) → KeepsPower old.plan → KeepsPower new.plan → old.plan.panel ≡ new.plan.panel
    → IsFirstApart old new limit runs → AreToldBy old new runs apart
    → found_text old.plan new.plan apart ≡ apart_text old new runs
found-is stays old new limit runs apart old-keeps new-keeps panels first told =
    let scans = length runs.brought in
    let scanned = map (λ (scan : Vec Exchange Global). scan.items) apart.brought.items in
    let many : length apart.brought.items ≡ scans =
    sym (length-map apart.brought.items _) ∙ ap length (sym told.brought) in
    let some = some-scans old new limit runs first panels in
    let one = end-line stays old runs.one scans apart.old old-keeps first.old_brings.plays some
    (one-goes old new limit runs first) told.old_end in
    let other = end-line stays new runs.other scans apart.new new-keeps first.new_brings.plays some
    (other-goes old new limit runs first) told.new_end in
    ap (λ n. fails_line n ++ (brought_lines scanned ++ (end_line old.plan apart.old n
    ++ end_line new.plan apart.new n))) many
    ∙ (λ i. fails_line scans ++ (brought_lines (sym told.brought i) ++ (one i ++ other i)))
