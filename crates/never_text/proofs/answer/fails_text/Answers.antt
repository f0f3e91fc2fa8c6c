use Rattle.std.proofs.Common.{◌≡◌, ◌++◌, ℕ, List, ap, sym, ◌∙◌, append_assoc, length}
use Rattle.std.specs.List.{flat_map, range_with_len}
use Rattle.std.proofs.lemmas.List.{length-map}
use Rattle.scan_order.specs.Due.{full_scan}
use Rattle.controller_core.specs.Controller.{fixed_with}
use Rattle.field_machine.specs.Choices.{told_by}
use Rattle.field_machine.specs.Never.{told_in_ways}
use Rattle.never_text.specs.Lines.{shown_line}
use Rattle.never_text.specs.Texts.{exchange_lines, fails_line, run_panel}
use Rattle.never_text.proofs.Showing.{shown-panel}
use Rattle.never_text.proofs.answer.fails_text.Goals as goal

pub returns : goal.returns
returns c =
    let plan = c.args.plan.now in
    let fixed = fixed_with plan c.args.scan_time c.args.watchdog 1 in
    let ways = c.args.ways.now in
    let told = told_in_ways plan ways in
    let scans = c.in_ok-scans.scans in
    let exchanges = exchange_lines plan told in
    let lines = λ (n : ℕ). flat_map (shown_line plan.node plan.panel c.in_ok-shown.shown n)
    (range_with_len 0 n) in
    let panel : lines (length ways) ≡ run_panel fixed told =
    shown-panel fixed ways c.in_ok-shown.shown c.in_ok-shown.ensures c.requires.stops
    c.kept_power_stays.ensures c.requires.alone.power in
    let many : length told ≡ length ways = length-map ways (told_by plan (full_scan plan)) in
    (λ i. (c.into_bytes.ensures.value i).items)
    ∙ (c.in_ok-push_panel.ensures
    ∙ (ap (λ (l : List ℕ). l ++ lines scans) (c.in_ok-push_exchanges.ensures
    ∙ ap (λ (l : List ℕ). l ++ exchanges) (c.in_ok-push_head.ensures
    ∙ ap (λ (l : List ℕ). l ++ fails_line scans) c.new-text.ensures.bytes))
    ∙ (ap (λ n. (fails_line n ++ exchanges) ++ lines n) c.in_ok-scans.ensures
    ∙ (append_assoc (fails_line (length ways)) exchanges (lines (length ways))
    ∙ (ap (λ (l : List ℕ). fails_line (length ways) ++ (exchanges ++ l)) panel
    ∙ ap (λ n. fails_line n ++ (exchanges ++ run_panel fixed told)) (sym many))))))
