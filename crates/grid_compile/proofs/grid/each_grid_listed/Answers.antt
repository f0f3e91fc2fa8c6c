use Rattle.grid_compile.proofs.Listed.{grid_listed}
use Rattle.grid_compile.proofs.grid.each_grid_listed.Goals as goal

pub returns : goal.returns
returns c = grid_listed
