use Rattle.std.proofs.Common.{refl, arith}
use Rattle.controller_core.proofs.machine.Machine.begin.Goals as goal

pub returns : goal.returns
returns c =
    let sound = c.requires.sound in
    record {
      fixed = refl;
      state = rw c.from.ensures refl;
      sound = record {
        runs = sound.runs;
        grids = sound.grids;
        drops = sound.drops;
        keeps = sound.keeps;
        past = sound.past;
        node = sound.node;
        routed = sound.routed;
        blocks = sound.blocks;
        few = sound.few;
        exchanges = sound.exchanges;
      };
      timely = λ steps timely. record {
        clock = let h = timely.clock in let t = sound.runs.scan_time in omega
            (arith, c.from.ensures);
        exchanges = λ i. let h = timely.exchanges i in omega arith;
        gone = let h = timely.gone in omega arith;
        failures = let h = timely.failures in omega arith;
      };
    }
