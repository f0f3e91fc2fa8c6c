use Rattle.std.proofs.Common.{take, All}
use Rattle.journal_lines.specs.Plain.{IsPlainCall}
use Rattle.journal_lines.proofs.plain.are_plain_calls.Given as goal

abbrev pub invariant-loop-at : goal.invariant-loop-at
invariant-loop-at l = All IsPlainCall (take l.at l.calls)
