use Rattle.std.proofs.Common.{◌≡◌, ◌<◌, ◌+◌, ◌-◌, ◌++◌, ℕ, suc, List, sym, ap, ◌∙◌, arith}
use Rattle.std.proofs.Common.{append_assoc, append-nil, string_bytes}
use Rattle.std.specs.List.{flat_map, range_with_len}
use Rattle.plant_types.specs.declared.reference.Ref.{Ref}
use Rattle.never_text.specs.Lines.{shown_line}
use Rattle.never_text.proofs.panel.push_panel.Goals as goal

-- one scan more
scan-step : (lines : ℕ → List ℕ) (at most : ℕ) (now next whole : List ℕ) → at < most
    → now ++ flat_map lines (range_with_len at (most - at)) ≡ whole → next ≡ now ++ lines at
    → next ++ flat_map lines (range_with_len (at + 1) (most - (at + 1))) ≡ whole
scan-step lines at most now next whole within so_far added =
    let left : most - at ≡ suc (most - (at + 1)) = omega (arith, within) in
    let behind = flat_map lines (range_with_len (at + 1) (most - (at + 1))) in
    ap (λ text. text ++ behind) added ∙ append_assoc now (lines at) behind
    ∙ ap (λ count. now ++ flat_map lines (range_with_len at count)) (sym left) ∙ so_far

pub loop-scan-preserved : goal.loop-scan-preserved
loop-scan-preserved c =
    let plan = c.args.plan.now in
    let old = string_bytes c.loop-scan.text in
    let scan = c.loop-scan.scan in
    let lines = λ (panel : List Ref). shown_line plan.node panel c.args.shown.now c.args.scans in
    let panel = c.as_slice-in-loop-scan.ensures.value ∙ (c.in_ok-readings.ensures ∙ c.as_slice.ensures) in
    let added = c.in_ok-push_line.ensures
    ∙ ap (λ (panel : List Ref). old ++ lines panel scan) panel in
    scan-step (lines plan.panel) scan c.args.scans old (string_bytes c.push_line.new.text)
    (string_bytes c.args.text.now ++ flat_map (lines plan.panel) (range_with_len 0 c.args.scans))
    c.loop-scan-test.true c.loop-scan.invariant added

pub returns : goal.returns
returns c =
    let plan = c.args.plan.now in
    let old = string_bytes c.loop-scan.text in
    let lines = shown_line plan.node plan.panel c.args.shown.now c.args.scans in
    let over = c.loop-scan-test.false in
    let none : c.args.scans - c.loop-scan.scan ≡ 0 = omega (arith, over) in
    sym (append-nil old)
    ∙ (ap (λ n. old ++ flat_map lines (range_with_len c.loop-scan.scan n)) (sym none)
    ∙ c.loop-scan.invariant)
