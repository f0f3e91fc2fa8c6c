-- What lines tell, and the lines of the scans that are gone.
use Rattle.std.proofs.Common.{◌≡◌, ◌<◌, ℕ, zero, suc, ◌+◌, ◌*◌, List, [], ◌∷◌, length, get_or}
use Rattle.std.proofs.Common.{Bool, drop, refl, sym, ap, ◌∙◌, arith}
use native.Mathlib.Nat.{suc-mul}
use Rattle.std.proofs.lemmas.List.{drop-drop}
use Rattle.plant_types.specs.declared.reference.Ref.{Ref}
use Rattle.plant_types.specs.declared.plan.ControllerPlan.{ControllerPlan}
use Rattle.scan_order.specs.Power.{ends_off, power_in}
use Rattle.controller_core.specs.Panel.{line_text}
use Rattle.controller_core.specs.NotedLines.{gone_line, gone_lines, noted_texts}
use Rattle.panel_line.specs.Told.{gone_told}

-- No value, no text.
pub no_texts : (panel : List Ref) → noted_texts panel [] ≡ []
no_texts [] = refl
no_texts (at ∷ panel) = refl

-- How many lines there are of scans that are gone.
pub gone_many : (plan : ControllerPlan) (before many : ℕ) (values : List ℕ)
    → length (gone_lines plan before many values) ≡ many
unfolding gone_lines
gone_many plan before zero values = refl
gone_many plan before (suc many) values =
    ap suc (gone_many plan (before + 1) many (drop (length plan.panel) values))

-- The line at a place among them.
pub gone_at : (plan : ControllerPlan) (before many scan : ℕ) (values : List ℕ) → scan < many
    → get_or (gone_lines plan before many values) scan []
    ≡ gone_line plan (before + scan + 1) (drop (scan * length plan.panel) values)
unfolding gone_lines
gone_at plan before zero scan values within = absurd (omega arith)
gone_at plan before (suc many) zero values within =
    let width = length plan.panel in
    let none : 0 * width ≡ 0 = omega arith in
    ap (λ number. gone_line plan number values) (omega arith)
    ∙ ap (λ n. gone_line plan (before + 0 + 1) (drop n values)) (sym none)
gone_at plan before (suc many) (suc scan) values within =
    let width = length plan.panel in
    let more : width + scan * width ≡ suc scan * width = omega (arith, suc-mul scan width) in
    gone_at plan (before + 1) many scan (drop width values) (omega arith)
    ∙ ap (λ number. gone_line plan number (drop (scan * width) (drop width values))) (omega arith)
    ∙ ap (λ left. gone_line plan (before + suc scan + 1) left)
    (drop-drop (scan * width) width values)
    ∙ ap (λ n. gone_line plan (before + suc scan + 1) (drop n values)) more

-- A line that is told by whether the scan ended without power, and by the values of the panel's
-- references, is that by the plan.
pub gone_by : (plan : ControllerPlan) (scan : ℕ) (off : Bool) (panel : List Ref)
    (given values : List ℕ) → off ≡ ends_off (power_in plan scan) → panel ≡ plan.panel
    → given ≡ values
    → line_text scan plan.node (gone_told off panel given) ≡ gone_line plan scan values
gone_by plan scan off panel given values power shown same =
    ap (λ off. line_text scan plan.node (gone_told off panel given)) power
    ∙ ap (λ panel. line_text scan plan.node (gone_told (ends_off (power_in plan scan)) panel given))
    shown
    ∙ ap (gone_line plan scan) same
