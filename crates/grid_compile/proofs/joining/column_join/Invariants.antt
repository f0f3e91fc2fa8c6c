use Rattle.std.proofs.Common.{◌≡◌}
use Rattle.std.specs.Prelude.{bit_and}
use Rattle.grid_compile.proofs.Sweeps.{swept_down, swept_up}
use Rattle.grid_compile.proofs.joining.column_join.Given as goal

abbrev pub invariant-loop-row : goal.invariant-loop-row
invariant-loop-row l = l.live ≡ swept_down l.shorts l.row (bit_and l.power 127)

abbrev pub invariant-loop-row-2 : goal.invariant-loop-row-2
invariant-loop-row-2 l =
    l.live ≡ swept_up l.shorts l.row (swept_down l.shorts 6 (bit_and l.power 127))
