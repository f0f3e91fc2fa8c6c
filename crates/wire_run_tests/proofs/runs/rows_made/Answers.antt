use Rattle.std.proofs.Common.{sym, subst}
use Rattle.word_exchange.specs.Wired.{AreWiresOf}
use Rattle.wire_run_tests.proofs.runs.rows_made.Goals as goal

pub cop_run-requires-clause-wires : goal.cop_run-requires-clause-wires
cop_run-requires-clause-wires c =
    let read = c.in-Ok-read_wires.ensures.wires in
    subst (AreWiresOf c.in-Ok.plant) (sym c.as_slice.ensures)
    (record { fit = read.fit; apart = read.apart })
