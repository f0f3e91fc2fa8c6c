use Rattle.std.proofs.Common.{◌≡◌, ◌+◌, ◌++◌, drop, string_bytes}
use Rattle.std.specs.List.{enumerate_from, flat_map}
use Rattle.field_machine.specs.Never.{told_in_ways}
use Rattle.never_text.specs.Texts.{exchange_lines, scan_exchanges}
use Rattle.never_text.proofs.exchanges.push_exchanges.Given as goal

abbrev pub invariant-loop-index : goal.invariant-loop-index
invariant-loop-index l =
    string_bytes l.text ++ flat_map (scan_exchanges l.plan)
    (enumerate_from (l.index + 1) (told_in_ways l.plan (drop l.index l.ways)))
    ≡ string_bytes l.fn.text ++ exchange_lines l.plan (told_in_ways l.plan l.ways)
