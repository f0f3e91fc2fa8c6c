use Rattle.std.proofs.Common.{◌≡◌, take}
use Rattle.ladder_solver.specs.Numbers.{grids_elements}
use Rattle.ladder_solver.specs.Layout.{segment_spots, Behind}
use Rattle.ladder_solver.proofs.layout.segment_spots.Given as goal

abbrev pub invariant-loop-grid : goal.invariant-loop-grid
invariant-loop-grid l = record {
  networks : l.networks ≡ segment_spots l.fn.block (take l.grid-index l.grids);
  block : Behind l.fn.block (grids_elements (take l.grid-index l.grids)) l.block;
}
