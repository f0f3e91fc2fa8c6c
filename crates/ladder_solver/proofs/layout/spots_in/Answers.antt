use Rattle.std.proofs.Common.{◌+◌, ◌<◌, ◌≤◌, ◌++◌, length, ◌∙◌, ap, sym, arith}
use Rattle.std.proofs.lemmas.List.{take_all}
use Rattle.grid_compile.specs.Bounds.{IsColumn}
use Rattle.std.specs.Prelude.{flat_map}
use Rattle.plant_types.specs.Standing.{message_limit}
use Rattle.ladder_solver.specs.Numbers.{mstrs_in, column_elements}
use Rattle.ladder_solver.specs.Layout.{spots_from, column_spots}
use Rattle.ladder_solver.proofs.Stored.{all_at_item}
use Rattle.ladder_solver.proofs.NumberLemmas.{spots_from-take, behind-item, room-item}
use Rattle.ladder_solver.proofs.layout.spots_in.Goals as goal

pub loop-i-init : goal.loop-i-init
unfolding spots_from
loop-i-init c = record { spots = c.new-spots.ensures; block = omega arith }

pub add_column-requires-clause-laid : goal.add_column-requires-clause-laid
add_column-requires-clause-laid c =
    let eleven = ap length c.as_slice-columns.ensures ∙ c.requires.grid.eleven in
    let within : c.loop-i.i < length c.as_slice-columns.result.now =
    omega (arith, eleven, c.loop-i-test.true) in
    all_at_item IsColumn c.as_slice-columns.result.now c.loop-i.i c.index-columns-i.result within
    c.index-columns-i.is
    (rw c.as_slice-columns.ensures c.requires.grid.columns)

pub add_column-requires-clause-few : goal.add_column-requires-clause-few
add_column-requires-clause-few c =
    let eleven = ap length c.as_slice-columns.ensures ∙ c.requires.grid.eleven in
    let within : c.loop-i.i < length c.as_slice-columns.result.now =
    omega (arith, eleven, c.loop-i-test.true) in
    room-item column_elements (λ block. column_spots block 1) c.args.block.now
    c.as_slice-columns.result.now c.loop-i.i c.loop-i.block
    c.loop-i.invariant.block within (message_limit + 1) c.index-columns-i.result
    c.index-columns-i.is (rw c.as_slice-columns.ensures c.requires.few)

pub loop-i-preserved : goal.loop-i-preserved
loop-i-preserved c =
    let eleven = ap length c.as_slice-columns.ensures ∙ c.requires.grid.eleven in
    let within : c.loop-i.i < length c.as_slice-columns.result.now =
    omega (arith, eleven, c.loop-i-test.true) in
    let columns = c.as_slice-columns.result.now in
    record {
      spots =
          c.in_ok-add_column.ensures.spots
          ∙ (λ i. c.loop-i.invariant.spots i
          ++ column_spots (c.loop-i.invariant.block i) (c.loop-i.i + 1) c.index-columns-i.result)
          ∙ sym (spots_from-take c.args.block.now columns c.loop-i.i c.index-columns-i.result within
          c.index-columns-i.is);
      block = behind-item column_elements (λ block. column_spots block 1) c.args.block.now columns
          c.loop-i.i c.loop-i.block
          c.loop-i.invariant.block within c.index-columns-i.result c.add_column.new.block
          (c.in_ok-add_column.ensures.block
          ∙ ap (λ laid. c.loop-i.block + mstrs_in (column_elements laid)) c.index-columns-i.is);
    }

pub returns-clause-spots : goal.returns-clause-spots
returns-clause-spots c =
    let eleven = ap length c.as_slice-columns.ensures ∙ c.requires.grid.eleven in
    let over : length c.as_slice-columns.result.now ≤ c.loop-i.i =
    omega (arith, eleven, c.loop-i-test.false) in
    c.loop-i.invariant.spots ∙ ap (spots_from c.args.block.now 1)
    (take_all c.loop-i.i c.as_slice-columns.result.now over ∙ c.as_slice-columns.ensures)

pub returns-clause-block : goal.returns-clause-block
returns-clause-block c =
    let eleven = ap length c.as_slice-columns.ensures ∙ c.requires.grid.eleven in
    let over : length c.as_slice-columns.result.now ≤ c.loop-i.i =
    omega (arith, eleven, c.loop-i-test.false) in
    c.loop-i.invariant.block
    ∙ ap (λ columns. c.args.block.now + mstrs_in (flat_map column_elements columns))
    (take_all c.loop-i.i c.as_slice-columns.result.now over ∙ c.as_slice-columns.ensures)
