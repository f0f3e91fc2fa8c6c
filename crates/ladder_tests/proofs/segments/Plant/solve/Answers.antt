use Rattle.std.proofs.Common.{sym, subst, arith}
use Rattle.std.proofs.lemmas.Grind.{common_steps}
use Rattle.plant_types.specs.Checks.{sizes_of}
use Rattle.plant_types.specs.Sizes.{cleared, discretes_of}
use Rattle.ladder_solver.specs.Conditions.{HasGridOperands, HasGridPast}
use Rattle.ladder_tests.proofs.segments.Plant.solve.Goals as goal

pub solve-end-requires : goal.solve-end-requires
solve-end-requires g c =
    let plant = c.args.self.now in
    let segments = plant.plan.segments in
    let sizes = sizes_of plant.plan in
    let law = c.grids_ask_no_more.ensures in
    let found = c.checked_plans_find_all.ensures plant.plan c.requires.checked.passes in
    let kept = c.kept_stores_find_all.ensures in
    record {
      first = omega arith;
      last = grind (arith, common_steps);
      operands = subst (HasGridOperands plant.ram) (sym c.requires.laid)
          (law.operands plant.ram segments
          (kept.operands (cleared sizes) plant.ram segments c.requires.stored found.operands));
      past = subst (HasGridPast plant.past) (sym c.requires.laid) (law.past plant.past segments
          (kept.past (cleared (discretes_of sizes)) plant.past segments
          c.requires.discretes found.past));
      blocks = c.requires.blocks;
      left = grind (arith, common_steps);
    }
