use Rattle.turn_gate.specs.Known.{IsPassReady}
use Rattle.gated_sides.specs.Cells.{maker_number}
use Rattle.live_workers.proofs.scanning.scan_all.Given as goal

abbrev pub invariant-loop : goal.invariant-loop
invariant-loop g l = record {
  ready : IsPassReady maker_number 1 l.gate.name l.pass;
}
