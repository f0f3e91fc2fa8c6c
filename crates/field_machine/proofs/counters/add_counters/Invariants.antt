use Rattle.std.proofs.Common.{◌≡◌, ◌++◌, drop}
use Rattle.field_machine.specs.Counters.{counters_in}
use Rattle.field_machine.proofs.counters.add_counters.Given as goal

abbrev pub invariant-loop-cell : goal.invariant-loop-cell
invariant-loop-cell l =
    l.places.items ++ counters_in l.segment l.network (drop l.cell-index l.cells)
    ≡ l.fn.places.items ++ counters_in l.segment l.network l.cells
