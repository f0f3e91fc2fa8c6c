use Rattle.std.proofs.Common.{◌≡◌, ◌++◌, drop, string_bytes}
use Rattle.panel_text.specs.Scans.{runs_noted, scan_lines}
use Rattle.panel_text.proofs.scans.push_scan.Given as goal

abbrev pub invariant-loop-at : goal.invariant-loop-at
invariant-loop-at l =
    string_bytes l.text ++ scan_lines (runs_noted (drop l.at l.plans) (drop l.at l.notes)) l.scan
    ≡ string_bytes l.fn.text ++ scan_lines (runs_noted l.plans l.notes) l.scan
