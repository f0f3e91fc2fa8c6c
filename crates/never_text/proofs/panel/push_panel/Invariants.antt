use Rattle.std.proofs.Common.{◌≡◌, ◌-◌, ◌++◌, string_bytes}
use Rattle.std.specs.List.{flat_map, range_with_len}
use Rattle.never_text.specs.Lines.{shown_line}
use Rattle.never_text.proofs.panel.push_panel.Given as goal

abbrev pub invariant-loop-scan : goal.invariant-loop-scan
invariant-loop-scan l =
    string_bytes l.text ++ flat_map (shown_line l.plan.node l.plan.panel l.shown l.scans)
    (range_with_len l.scan (l.scans - l.scan))
    ≡ string_bytes l.fn.text ++ flat_map (shown_line l.plan.node l.plan.panel l.shown l.scans)
    (range_with_len 0 l.scans)
