use Rattle.std.proofs.Common.{arith}
use Rattle.plant_types.specs.Operands.{HasOperands, HasPast}
use Rattle.grid_compile.specs.Layout.{grids_of}
use Rattle.grid_compile.proofs.Bounds.{grids_within}
use Rattle.ladder_solver.proofs.NumberLemmas.{mstr_count-of, mstr_blocks-few}
use Rattle.ladder_solver.proofs.GridLemmas.{each_in_grids, has_labels}
use Rattle.ladder_solver.proofs.ladder.grids_ask_no_more.Goals as goal

pub returns : goal.returns
returns c = record {
  can_lay = λ m segments operands few. record {
    grids = grids_within segments;
    labels = has_labels m (grids_of segments) operands;
    few = omega (arith, few, mstr_count-of segments);
  };
  operands = λ m segments operands. each_in_grids (HasOperands m) segments operands;
  past = λ m segments were. each_in_grids (HasPast m) segments were;
  blocks = λ segments. mstr_count-of segments;
  few = λ segments. mstr_blocks-few segments;
}
