use Rattle.std.proofs.Common.{◌≡◌, ◌++◌, drop, string_bytes}
use Rattle.std.specs.List.{flat_map}
use Rattle.journal_lines.specs.Lines.{ring_line}
use Rattle.journal_lines.proofs.rings.push_ring_lines.Given as goal

abbrev pub invariant-loop-entry : goal.invariant-loop-entry
invariant-loop-entry l =
    string_bytes l.text ++ flat_map ring_line (drop l.entry-index l.entries)
    ≡ string_bytes l.fn.text ++ flat_map ring_line l.entries
