use Rattle.std.proofs.Common.{◌≡◌, take}
use Rattle.ladder_solver.specs.Numbers.{program_elements}
use Rattle.ladder_solver.specs.Layout.{spots_of, Behind}
use Rattle.ladder_solver.proofs.layout.spots_of.Given as goal

abbrev pub invariant-loop-grids : goal.invariant-loop-grids
invariant-loop-grids l = record {
  networks : l.networks ≡ spots_of (take l.grids-index l.segments);
  block : Behind 1 (program_elements (take l.grids-index l.segments)) l.block;
}
