use Rattle.std.proofs.Common.{◌≡◌, ◌+◌, false, List, length, refl, sym, ap, subst, ◌∙◌, arith}
use Rattle.plant_types.specs.declared.network.Segment.{Segment}
use Rattle.plant_types.specs.Checks.{sizes_of}
use Rattle.plant_types.specs.Discretes.{discretes_on}
use Rattle.plant_types.specs.Sizes.{cleared, discretes}
use Rattle.plant_types.specs.Standing.{cells_of_segments}
use Rattle.plant_types.specs.Store.{Contents, Keeps, part_within}
use Rattle.mstr_block.specs.Table.{BlockTable}
use Rattle.ladder_solver.specs.State.{solve_state}
use Rattle.controller_core.specs.Machine.{HasCoils}
use Rattle.controller_core.specs.Replay.{coils_off, unlatched_coils}
use Rattle.controller_core.proofs.CoilsOff.{segments-there}
use Rattle.controller_core.proofs.machine.Machine.fail.Goals as goal

pub switch_coils_off-requires : goal.switch_coils_off-requires
switch_coils_off-requires c =
    let machine = c.args.self.now in
    let plan = machine.fixed.plan in
    let sound = c.requires.sound in
    let found = c.checked_plans_find_all.ensures plan sound.runs.plan.passes in
    let there = c.kept_stores_find_all.ensures.operands (cleared (sizes_of plan)) machine.ram
    plan.segments sound.keeps found.operands in
    subst (λ (l : List Segment). HasCoils machine.ram (unlatched_coils (cells_of_segments l)))
    (sym c.as_slice.ensures) (segments-there machine.ram plan.segments there)

pub copy_from-requires : goal.copy_from-requires
copy_from-requires c =
    let machine = c.args.self.now in
    let sound = c.requires.sound in
    let sizes = sizes_of machine.fixed.plan in
    let m = c.switch_coils_off.new.ram in
    let keeps : Keeps (cleared sizes) m =
    λ at h. c.switch_coils_off.ensures.keeps at (sound.keeps at h) in
    subst (λ (past : Contents). Keeps past m) (sym sound.past.is)
    (c.discretes_follow.ensures.held sizes sound.past.store m keeps)

pub returns : goal.returns
returns c =
    let machine = c.args.self.now in
    let plan = machine.fixed.plan in
    let sizes = sizes_of plan in
    let sound = c.requires.sound in
    let m = c.switch_coils_off.new.ram in
    let keeps : Keeps (cleared sizes) m =
    λ at h. c.switch_coils_off.ensures.keeps at (sound.keeps at h) in
    let off : m ≡ coils_off (unlatched_coils (cells_of_segments plan.segments)) machine.ram =
    c.switch_coils_off.ensures.off
    ∙ ap (λ (l : List Segment). coils_off (unlatched_coils (cells_of_segments l)) machine.ram)
    c.as_slice.ensures in
    let past : c.copy_from.new.self ≡ discretes sizes m =
    c.copy_from.ensures.copied ∙ ap (λ (n : Contents). part_within n m) sound.past.is
    ∙ c.discretes_follow.ensures.copied sizes sound.past.store m sound.past.keeps in
    let kept = ap discretes_on (past ∙ ap (discretes sizes) off) in
    let bank = c.power_fail.ensures in
    let calls = c.power_failures_keep_calls.ensures.keeps machine.bank in
    let blocks = ap (λ (t : BlockTable). length t.blocks) bank ∙ calls.count in
    record {
      fixed = refl;
      state = λ i. record {
        solving = solve_state (off i) (kept i) machine.ladder.edges (bank i) machine.clock
            machine.watch.left;
        exchanges = machine.exchanges.items;
        gone = machine.gone + 1;
        stop = machine.stop;
        powered = false;
        failures = machine.failures + 1;
      };
      sound = record {
        runs = sound.runs;
        grids = sound.grids;
        drops = sound.drops;
        keeps = keeps;
        past = record { store = m; keeps = keeps; is = past };
        node = ap (λ (t : BlockTable). t.node) bank ∙ calls.node ∙ sound.node;
        routed = ap (λ (t : BlockTable). t.routed) bank ∙ calls.routed ∙ sound.routed;
        blocks = blocks ∙ sound.blocks;
        few = let few = sound.few in omega (arith, blocks, few);
        exchanges = sound.exchanges;
      };
      timely = λ steps timely. record {
        clock = let h = timely.clock in omega arith;
        exchanges = λ i. let h = timely.exchanges i in omega arith;
        gone = let h = timely.gone in omega arith;
        failures = let h = timely.failures in omega arith;
      };
    }
