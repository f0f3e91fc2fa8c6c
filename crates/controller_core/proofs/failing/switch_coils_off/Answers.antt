use Rattle.std.proofs.Common.{◌+◌, List, drop, sym, ap, subst, ◌∙◌}
use Rattle.plant_types.specs.declared.network.Network.{Network}
use Rattle.plant_types.specs.Standing.{cells_of_networks, cells_of_segments}
use Rattle.controller_core.specs.Machine.{HasCoils}
use Rattle.controller_core.specs.Replay.{coils_off, unlatched_coils}
use Rattle.controller_core.proofs.CoilsOff.{drop_item, off_next, there_first}
use Rattle.controller_core.proofs.failing.switch_coils_off.Goals as goal

pub switch_networks_off-requires : goal.switch_networks_off-requires
switch_networks_off-requires c =
    let xs = c.args.segments.now in
    let i = c.loop-segment.segment-index in
    let x = c.segment-item.result in
    let low = c.loop-segment-test.true in
    let split = ap cells_of_segments (drop_item xs i x low c.segment-item.is) in
    subst (λ (l : List Network). HasCoils c.loop-segment.ram
    (unlatched_coils (cells_of_networks l))) (sym c.as_slice.ensures)
    (there_first c.loop-segment.ram (cells_of_segments (drop i xs)) (cells_of_networks x.networks)
    (cells_of_segments (drop (i + 1) xs)) split c.loop-segment.invariant.there)

pub loop-segment-preserved : goal.loop-segment-preserved
loop-segment-preserved c =
    let xs = c.args.segments.now in
    let i = c.loop-segment.segment-index in
    let x = c.segment-item.result in
    let low = c.loop-segment-test.true in
    let split = ap cells_of_segments (drop_item xs i x low c.segment-item.is) in
    let made = c.switch_networks_off.ensures in
    let off = made.off
    ∙ ap (λ (l : List Network).
    coils_off (unlatched_coils (cells_of_networks l)) c.loop-segment.ram)
    c.as_slice.ensures in
    let next = off_next c.loop-segment.ram c.switch_networks_off.new.ram
    (cells_of_segments (drop i xs)) (cells_of_networks x.networks)
    (cells_of_segments (drop (i + 1) xs))
    split off made.keeps c.loop-segment.invariant.there in
    record {
      off = next.off ∙ c.loop-segment.invariant.off;
      there = next.there;
      keeps = λ at h. made.keeps at (c.loop-segment.invariant.keeps at h);
    }
