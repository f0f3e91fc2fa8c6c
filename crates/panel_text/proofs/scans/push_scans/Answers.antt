use Rattle.std.proofs.Common.{◌≡◌, ◌-◌, ◌++◌, ◌∙◌, ap, append-nil, arith, sym, string_bytes}
use Rattle.std.specs.List.{flat_map, range_with_len}
use Rattle.panel_text.specs.Scans.{by_scan, longest, runs_noted, scan_lines}
use Rattle.panel_text.proofs.ScanLemmas.{longest_noted, scan_step}
use Rattle.panel_text.proofs.scans.push_scans.Goals as goal

pub loop-scan-preserved : goal.loop-scan-preserved
loop-scan-preserved c =
    let runs = runs_noted c.args.plans.now c.args.notes.now in
    let long = longest_noted c.args.plans.now c.args.notes.now c.requires.count in
    scan_step (scan_lines runs) c.loop-scan.scan (longest runs) (string_bytes c.loop-scan.text)
    (string_bytes c.push_scan.new.text) (string_bytes c.args.text.now ++ by_scan runs)
    (omega (arith, long, c.longest-scan-end.ensures)) c.loop-scan.invariant
    c.in_ok-push_scan.ensures

pub returns : goal.returns
returns c =
    let runs = runs_noted c.args.plans.now c.args.notes.now in
    let text = string_bytes c.loop-scan.text in
    let scan = c.loop-scan.scan in
    let long = longest_noted c.args.plans.now c.args.notes.now c.requires.count in
    let none : longest runs - scan ≡ 0 = omega (arith, long, c.longest-scan-end.ensures) in
    sym (append-nil text)
    ∙ ap (λ n. text ++ flat_map (scan_lines runs) (range_with_len scan n)) (sym none)
    ∙ c.loop-scan.invariant
