use Rattle.std.proofs.Common.{◌≡◌, ◌++◌, drop, string_bytes}
use Rattle.std.specs.List.{flat_map}
use Rattle.journal_lines.specs.Lines.{call_text}
use Rattle.journal_lines.proofs.controllers.push_calls.Given as goal

abbrev pub invariant-loop-call : goal.invariant-loop-call
invariant-loop-call l =
    string_bytes l.text ++ flat_map call_text (drop l.call-index l.calls)
    ≡ string_bytes l.fn.text ++ flat_map call_text l.calls
