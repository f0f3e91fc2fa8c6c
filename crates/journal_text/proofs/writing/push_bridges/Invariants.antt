use Rattle.std.proofs.Common.{◌≡◌, ◌++◌, drop, string_bytes}
use Rattle.std.specs.List.{flat_map}
use Rattle.journal_text.specs.Journal.{bridge_section}
use Rattle.journal_text.proofs.writing.push_bridges.Given as goal

abbrev pub invariant-loop-log : goal.invariant-loop-log
invariant-loop-log l =
    string_bytes l.text ++ flat_map bridge_section (drop l.log-index l.logs)
    ≡ string_bytes l.fn.text ++ flat_map bridge_section l.logs
