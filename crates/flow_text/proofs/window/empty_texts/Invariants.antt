use Rattle.std.proofs.Common.{◌≡◌, [], map, string_bytes}
use Rattle.std.specs.Prelude.{replicate}
use Rattle.flow_text.proofs.window.empty_texts.Given as goal

abbrev pub invariant-loop : goal.invariant-loop
invariant-loop l = map string_bytes l.texts.items ≡ replicate l.counter []
