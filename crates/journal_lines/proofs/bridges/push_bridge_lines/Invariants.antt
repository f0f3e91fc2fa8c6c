use Rattle.std.proofs.Common.{◌≡◌, ◌++◌, drop, string_bytes}
use Rattle.std.specs.List.{flat_map}
use Rattle.journal_lines.specs.Lines.{bridge_line}
use Rattle.journal_lines.proofs.bridges.push_bridge_lines.Given as goal

abbrev pub invariant-loop-entry : goal.invariant-loop-entry
invariant-loop-entry l =
    string_bytes l.text ++ flat_map bridge_line (drop l.entry-index l.entries)
    ≡ string_bytes l.fn.text ++ flat_map bridge_line l.entries
