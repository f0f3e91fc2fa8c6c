use Rattle.std.proofs.Common.{◌≡◌, ◌+◌, ◌++◌, drop, Global, map, string_bytes, Vec}
use Rattle.std.specs.List.{enumerate_from, flat_map}
use Rattle.field_pair.specs.FieldMachine.{Exchange}
use Rattle.same_text.specs.Texts.{brought_in_scan, brought_lines}
use Rattle.same_text.proofs.lines.push_brought.Given as goal

abbrev pub invariant-loop-index : goal.invariant-loop-index
invariant-loop-index l =
    string_bytes l.text ++ flat_map brought_in_scan (enumerate_from (l.index + 1)
    (map (λ (scan : Vec Exchange Global). scan.items) (drop l.index l.brought)))
    ≡ string_bytes l.fn.text
    ++ brought_lines (map (λ (scan : Vec Exchange Global). scan.items) l.brought)
