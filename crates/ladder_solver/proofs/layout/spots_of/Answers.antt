use Rattle.std.proofs.Common.{◌+◌, ◌++◌, List, ◌∙◌, ap, sym, subst, [], ◌∷◌, arith}
use Rattle.grid_compile.specs.declared.grid.Grid.{Grid}
use Rattle.plant_types.specs.Standing.{message_limit}
use Rattle.ladder_solver.specs.Numbers.{mstrs_in, grids_elements}
use Rattle.ladder_solver.specs.Layout.{HasBlockRoom, with_numbers, segment_spots}
use Rattle.ladder_solver.proofs.NumberLemmas.{room-item, numbered-item, behind-item}
use Rattle.ladder_solver.proofs.layout.spots_of.Goals as goal

pub loop-grids-init : goal.loop-grids-init
unfolding with_numbers
loop-grids-init c = record { networks = c.new-networks.ensures; block = omega arith }

pub segment_spots-requires-clause-few : goal.segment_spots-requires-clause-few
segment_spots-requires-clause-few c =
    subst (λ (grids : List Grid). HasBlockRoom c.loop-grids.block (grids_elements grids))
    (sym c.as_slice.ensures)
    (room-item grids_elements segment_spots 1 c.args.segments.now c.loop-grids.grids-index
    c.loop-grids.block
    c.loop-grids.invariant.block c.loop-grids-test.true
    (message_limit + 1) c.grids-item.result c.grids-item.is (omega (arith, c.requires.few)))

pub loop-grids-preserved : goal.loop-grids-preserved
loop-grids-preserved c = record {
  networks =
      c.in_ok-push.ensures.ok ∙ ap (λ networks. networks ++ c.in_ok-segment_spots.field-0 ∷ [])
      c.loop-grids.invariant.networks
      ∙ sym (numbered-item grids_elements segment_spots 1 c.args.segments.now
      c.loop-grids.grids-index c.loop-grids.block
      c.loop-grids.invariant.block c.loop-grids-test.true
      c.grids-item.result c.in_ok-segment_spots.field-0
      (c.in_ok-segment_spots.ensures.spots
      ∙ ap (segment_spots c.loop-grids.block) (c.as_slice.ensures ∙ c.grids-item.is)));
  block = behind-item grids_elements segment_spots 1 c.args.segments.now c.loop-grids.grids-index
      c.loop-grids.block
      c.loop-grids.invariant.block c.loop-grids-test.true
      c.grids-item.result c.segment_spots.new.block
      (c.in_ok-segment_spots.ensures.block ∙ ap (λ grids.
      c.loop-grids.block + mstrs_in (grids_elements grids)) (c.as_slice.ensures ∙ c.grids-item.is));
}
