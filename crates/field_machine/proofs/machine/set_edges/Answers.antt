use Rattle.std.proofs.Common.{get_or, sym, subst, List}
use Rattle.grid_compile.specs.declared.grid.Grid.{Grid}
use Rattle.ladder_solver.specs.Edges.{network_counts, HasEdgeBit}
use Rattle.ladder_solver.specs.declared.places.BlockPlace.{BlockPlace}
use Rattle.field_machine.proofs.Items.{get-there}
use Rattle.field_machine.proofs.machine.set_edges.Goals as goal

pub set_edge-requires : goal.set_edge-requires
set_edge-requires c =
    let counters = c.args.counters.now in
    let i = c.loop-index.index in
    let none : BlockPlace = record { segment = 0; network = 0; column = 0; row = 0 } in
    let place = get_or counters i none in
    subst (λ (grids : List (List Grid)). HasEdgeBit (network_counts grids) place)
    (sym c.loop-index.invariant.grids)
    (c.requires place (i, get-there counters i none c.loop-index-test.true))
