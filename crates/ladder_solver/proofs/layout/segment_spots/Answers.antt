use Rattle.std.proofs.Common.{◌+◌, ◌++◌, ◌∙◌, ap, sym, [], ◌∷◌, arith}
use Rattle.plant_types.specs.Standing.{message_limit}
use Rattle.ladder_solver.specs.Numbers.{mstrs_in, grid_elements}
use Rattle.ladder_solver.specs.Layout.{with_numbers, spots_in}
use Rattle.ladder_solver.proofs.NumberLemmas.{room-item, numbered-item, behind-item}
use Rattle.ladder_solver.proofs.layout.segment_spots.Goals as goal

pub loop-grid-init : goal.loop-grid-init
unfolding with_numbers
loop-grid-init c = record { networks = c.new-networks.ensures; block = omega arith }

pub spots_in-requires-clause-few : goal.spots_in-requires-clause-few
spots_in-requires-clause-few c =
    room-item grid_elements spots_in c.args.block.now c.args.grids.now c.loop-grid.grid-index
    c.loop-grid.block
    c.loop-grid.invariant.block c.loop-grid-test.true
    (message_limit + 1) c.grid-item.result c.grid-item.is c.requires.few

pub loop-grid-preserved : goal.loop-grid-preserved
loop-grid-preserved c = record {
  networks =
      c.in_ok-push.ensures.ok
      ∙ ap (λ networks. networks ++ c.in_ok-spots_in.field-0 ∷ []) c.loop-grid.invariant.networks
      ∙ sym (numbered-item grid_elements spots_in c.args.block.now c.args.grids.now
      c.loop-grid.grid-index c.loop-grid.block
      c.loop-grid.invariant.block c.loop-grid-test.true
      c.grid-item.result c.in_ok-spots_in.field-0
      (c.in_ok-spots_in.ensures.spots ∙ ap (spots_in c.loop-grid.block) c.grid-item.is));
  block = behind-item grid_elements spots_in c.args.block.now c.args.grids.now
      c.loop-grid.grid-index c.loop-grid.block
      c.loop-grid.invariant.block c.loop-grid-test.true
      c.grid-item.result c.spots_in.new.block
      (c.in_ok-spots_in.ensures.block
      ∙ ap (λ grid. c.loop-grid.block + mstrs_in (grid_elements grid)) c.grid-item.is);
}
