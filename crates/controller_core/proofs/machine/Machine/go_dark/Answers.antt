use Rattle.std.proofs.Common.{refl, arith}
use Rattle.controller_core.proofs.machine.Machine.go_dark.Goals as goal

pub returns : goal.returns
returns c =
    let sound = c.requires.sound in
    record {
      fixed = refl;
      state = refl;
      sound = record {
        runs = sound.runs;
        grids = sound.grids;
        drops = sound.drops;
        keeps = sound.keeps;
        past = sound.past;
        node = sound.node;
        routed = sound.routed;
        blocks = sound.blocks;
        few = sound.few;
        exchanges = sound.exchanges;
      };
      timely = λ steps timely. record {
        clock = let h = timely.clock in omega arith;
        exchanges = λ i. let h = timely.exchanges i in omega arith;
        gone = let h = timely.gone in omega arith;
        failures = let h = timely.failures in omega arith;
      };
    }
