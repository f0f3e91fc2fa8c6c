use Rattle.std.proofs.Common.{◌+◌, List, drop, sym, ap, subst, ◌∙◌}
use Rattle.plant_types.specs.declared.network.Cell.{Cell}
use Rattle.plant_types.specs.Standing.{cells_of_networks}
use Rattle.controller_core.specs.Machine.{HasCoils}
use Rattle.controller_core.specs.Replay.{coils_off, unlatched_coils}
use Rattle.controller_core.proofs.CoilsOff.{drop_item, off_next, there_first}
use Rattle.controller_core.proofs.failing.switch_networks_off.Goals as goal

pub switch_cells_off-requires : goal.switch_cells_off-requires
switch_cells_off-requires c =
    let xs = c.args.networks.now in
    let i = c.loop-network.network-index in
    let x = c.network-item.result in
    let low = c.loop-network-test.true in
    let split = ap cells_of_networks (drop_item xs i x low c.network-item.is) in
    subst (λ (l : List Cell). HasCoils c.loop-network.ram
    (unlatched_coils l)) (sym c.as_slice.ensures)
    (there_first c.loop-network.ram (cells_of_networks (drop i xs)) (x.cells)
    (cells_of_networks (drop (i + 1) xs)) split c.loop-network.invariant.there)

pub loop-network-preserved : goal.loop-network-preserved
loop-network-preserved c =
    let xs = c.args.networks.now in
    let i = c.loop-network.network-index in
    let x = c.network-item.result in
    let low = c.loop-network-test.true in
    let split = ap cells_of_networks (drop_item xs i x low c.network-item.is) in
    let made = c.switch_cells_off.ensures in
    let off = made.off
    ∙ ap (λ (l : List Cell). coils_off (unlatched_coils l) c.loop-network.ram)
    c.as_slice.ensures in
    let next = off_next c.loop-network.ram c.switch_cells_off.new.ram
    (cells_of_networks (drop i xs)) (x.cells) (cells_of_networks (drop (i + 1) xs))
    split off made.keeps c.loop-network.invariant.there in
    record {
      off = next.off ∙ c.loop-network.invariant.off;
      there = next.there;
      keeps = λ at h. made.keeps at (c.loop-network.invariant.keeps at h);
    }
