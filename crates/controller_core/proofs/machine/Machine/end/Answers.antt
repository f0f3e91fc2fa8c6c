use Rattle.std.proofs.Common.{◌≡◌, refl, sym, ap, subst, ◌∙◌, arith}
use Rattle.plant_types.specs.Checks.{sizes_of}
use Rattle.plant_types.specs.Sizes.{discretes}
use Rattle.plant_types.specs.Store.{Contents, Keeps, part_within}
use Rattle.controller_core.proofs.machine.Machine.end.Goals as goal

pub copy_from-requires : goal.copy_from-requires
copy_from-requires c =
    let machine = c.args.self.now in
    let sound = c.requires.sound in
    subst (λ (past : Contents). Keeps past machine.ram) (sym sound.past.is)
    (c.discretes_follow.ensures.held (sizes_of machine.fixed.plan) sound.past.store
    machine.ram sound.keeps)

pub returns : goal.returns
returns c =
    let machine = c.args.self.now in
    let sound = c.requires.sound in
    let sizes = sizes_of machine.fixed.plan in
    let past : c.copy_from.new.self ≡ discretes sizes machine.ram =
    c.copy_from.ensures.copied ∙ ap (λ (m : Contents). part_within m machine.ram) sound.past.is
    ∙ c.discretes_follow.ensures.copied sizes sound.past.store machine.ram sound.past.keeps in
    record {
      fixed = refl;
      state = rw past refl;
      sound = record {
        runs = sound.runs;
        grids = sound.grids;
        drops = sound.drops;
        keeps = sound.keeps;
        past = record { store = machine.ram; keeps = sound.keeps; is = past };
        node = sound.node;
        routed = sound.routed;
        blocks = sound.blocks;
        few = sound.few;
        exchanges = sound.exchanges;
      };
      timely = λ steps timely. record {
        clock = let h = timely.clock in omega arith;
        exchanges = λ i. let h = timely.exchanges i in omega arith;
        gone = let h = timely.gone in omega arith;
        failures = let h = timely.failures in omega arith;
      };
    }
