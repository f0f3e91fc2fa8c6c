use Rattle.std.proofs.Common.{◌≡◌, ◌-◌, ◌++◌, string_bytes}
use Rattle.std.specs.List.{flat_map, range_with_len}
use Rattle.panel_text.specs.Scans.{by_scan, longest, runs_noted, scan_lines}
use Rattle.panel_text.proofs.scans.push_scans.Given as goal

abbrev pub invariant-loop-scan : goal.invariant-loop-scan
invariant-loop-scan l =
    let runs = runs_noted l.plans l.notes in
    string_bytes l.text
    ++ flat_map (scan_lines runs) (range_with_len l.scan (longest runs - l.scan))
    ≡ string_bytes l.fn.text ++ by_scan runs
