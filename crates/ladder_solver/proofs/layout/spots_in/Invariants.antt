use Rattle.std.proofs.Common.{◌≡◌, take}
use Rattle.std.specs.Prelude.{flat_map}
use Rattle.ladder_solver.specs.Numbers.{column_elements}
use Rattle.ladder_solver.specs.Layout.{spots_from, Behind}
use Rattle.ladder_solver.proofs.layout.spots_in.Given as goal

abbrev pub invariant-loop-i : goal.invariant-loop-i
invariant-loop-i l = record {
  spots : l.spots ≡ spots_from l.fn.block 1 (take l.i l.columns);
  block : Behind l.fn.block (flat_map column_elements (take l.i l.columns)) l.block;
}
