use Rattle.std.proofs.Common.{◌≡◌, ◌++◌, None}
use Rattle.std.specs.Prelude.{replicate}
use Rattle.ladder_solver.proofs.program.make_room.Given as goal

-- so many places more
abbrev pub invariant-loop : goal.invariant-loop
invariant-loop l = l.spans.items ≡ l.initial.spans.items ++ replicate l.counter None
