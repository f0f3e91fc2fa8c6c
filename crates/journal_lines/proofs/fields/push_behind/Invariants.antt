use Rattle.std.proofs.Common.{◌≡◌, ◌++◌, drop, string_bytes}
use Rattle.std.specs.List.{flat_map}
use Rattle.journal_lines.specs.Fields.{behind_point}
use Rattle.journal_lines.proofs.fields.push_behind.Given as goal

abbrev pub invariant-loop-address : goal.invariant-loop-address
invariant-loop-address l =
    string_bytes l.text ++ flat_map behind_point (drop l.address-index l.addresses)
    ≡ string_bytes l.fn.text ++ flat_map behind_point l.addresses
