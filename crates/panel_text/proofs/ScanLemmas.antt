-- The lines of scans, one scan after another, and in each one controller after another.
use Rattle.std.proofs.Common.{◌≡◌, ◌<◌, ℕ, suc, ◌+◌, ◌-◌, List, [], ◌∷◌, ◌++◌, refl, sym, ap, ◌∙◌}
use Rattle.std.proofs.Common.{append_assoc, arith, length, get_or, drop, map}
use Rattle.std.specs.Prelude.{fold, max}
use Rattle.std.specs.List.{flat_map, range_with_len}
use Rattle.std.proofs.lemmas.List.{get_or-map, length-map}
use Rattle.plant_types.specs.declared.plan.ControllerPlan.{ControllerPlan}
use Rattle.controller_core.specs.declared.notes.Notes.{Notes}
use Rattle.controller_core.specs.NotedLines.{noted_lines}
use Rattle.panel_text.specs.Scans.{lines_noted, longest, runs_noted, scan_lines}
use Rattle.panel_text.proofs.LineLemmas.{cut_at, noted_many}

-- one scan more
pub scan_step : (lines : ℕ → List ℕ) (at most : ℕ) (now next whole : List ℕ) → at < most
    → now ++ flat_map lines (range_with_len at (most - at)) ≡ whole → next ≡ now ++ lines at
    → next ++ flat_map lines (range_with_len (at + 1) (most - (at + 1))) ≡ whole
scan_step lines at most now next whole within so_far added =
    let left : most - at ≡ suc (most - (at + 1)) = omega arith in
    let behind = flat_map lines (range_with_len (at + 1) (most - (at + 1))) in
    ap (λ text. text ++ behind) added ∙ append_assoc now (lines at) behind
    ∙ ap (λ count. now ++ flat_map lines (range_with_len at count)) (sym left) ∙ so_far

-- one controller more
pub controller_step : (plans : List ControllerPlan) (notes : List Notes) (at : ℕ)
    (plan : ControllerPlan) (noted : Notes) (scan : ℕ) (now next whole : List ℕ)
    → at < length plans → at < length notes → plan ≡ get_or plans at plan
    → noted ≡ get_or notes at noted
    → now ++ scan_lines (runs_noted (drop at plans) (drop at notes)) scan ≡ whole
    → next ≡ now ++ get_or (noted_lines plan noted) scan []
    → next ++ scan_lines (runs_noted (drop (at + 1) plans) (drop (at + 1) notes)) scan ≡ whole
controller_step plans notes at plan noted scan now next whole within there is that so_far added =
    let here = get_or (noted_lines plan noted) scan [] in
    let rest = scan_lines (runs_noted (drop (at + 1) plans) (drop (at + 1) notes)) scan in
    ap (λ text. text ++ rest) added ∙ append_assoc now here rest
    ∙ ap (λ left. now ++ scan_lines (runs_noted left (noted ∷ drop (at + 1) notes)) scan)
    (sym (cut_at plans at plan within is))
    ∙ ap (λ left. now ++ scan_lines (runs_noted (drop at plans) left) scan)
    (sym (cut_at notes at noted there that))
    ∙ so_far

-- lists that are the same under two functions are as long as each other
pub maps_long : {A B C : Type 0} (f : A → C) (g : B → C) (xs : List A) (ys : List B)
    → map f xs ≡ map g ys → length xs ≡ length ys
maps_long f g xs ys same = sym (length-map xs f) ∙ ap length same ∙ length-map ys g

-- and their items at a place are the same under them
pub maps_meet : {A B C : Type 0} (f : A → C) (g : B → C) (xs : List A) (ys : List B) (at : ℕ)
    (x : A) (y : B) → map f xs ≡ map g ys → at < length xs → at < length ys
    → x ≡ get_or xs at x → y ≡ get_or ys at y → f x ≡ g y
maps_meet f g xs ys at x y same within there is that =
    ap f is ∙ sym (get_or-map f xs at x (f x) within) ∙ ap (λ all. get_or all at (f x)) same
    ∙ get_or-map g ys at y (f x) there ∙ ap g (sym that)

lengths_noted : (plans : List ControllerPlan) (notes : List Notes)
    → length notes ≡ length plans → map length (runs_noted plans notes) ≡ map lines_noted notes
lengths_noted [] [] same = refl
lengths_noted [] (noted ∷ notes) same = absurd (omega (arith, same))
lengths_noted (plan ∷ plans) [] same = absurd (omega (arith, same))
lengths_noted (plan ∷ plans) (noted ∷ notes) same =
    λ i. noted_many plan noted i ∷ lengths_noted plans notes (omega (arith, same)) i

-- how many scans the longest run has
pub longest_noted : (plans : List ControllerPlan) (notes : List Notes)
    → length notes ≡ length plans
    → longest (runs_noted plans notes) ≡ fold max 0 (map lines_noted notes)
longest_noted plans notes same = ap (fold max 0) (lengths_noted plans notes same)
