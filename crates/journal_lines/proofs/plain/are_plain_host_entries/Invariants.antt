use Rattle.std.proofs.Common.{take, All}
use Rattle.journal_lines.specs.Plain.{IsPlainHostEntry}
use Rattle.journal_lines.proofs.plain.are_plain_host_entries.Given as goal

abbrev pub invariant-loop-at : goal.invariant-loop-at
invariant-loop-at l = All IsPlainHostEntry (take l.at l.entries)
