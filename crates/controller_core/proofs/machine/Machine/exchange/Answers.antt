use Rattle.std.proofs.Common.{◌≡◌, ◌≤◌, ◌<◌, ◌+◌, ◌-◌, List, length, get_or, set, refl, sym, ap}
use Rattle.std.proofs.Common.{subst, ◌∙◌, arith}
use Rattle.std.proofs.lemmas.List.{get_or_default, length-set}
use Rattle.plant_types.specs.declared.drops.IoDrop.{IoDrop}
use Rattle.ladder_solver.specs.State.{solve_state}
use Rattle.traffic_cop.specs.Drops.{input_after}
use Rattle.controller_core.proofs.MachineLemmas.{counted}
use Rattle.plant_types.specs.Discretes.{discretes_on}
use Rattle.controller_core.proofs.machine.Machine.exchange.Goals as goal

pub returns : goal.returns
returns c =
    let machine = c.args.self.now in
    let sound = c.requires.sound in
    let xs = machine.exchanges.items in
    let drop = c.args.drop in
    let from = c.requires.there.from in
    let to = c.requires.there.to in
    let size = sound.exchanges in
    let place = c.from-place.result - 1 in
    let here : place ≡ drop - 1 = ap (λ n. n - 1) c.from-place.ensures in
    let within : place < length xs = omega (arith, c.from-place.ensures) in
    let count : c.index.result.now ≡ get_or xs place 0 = c.index.ensures
    ∙ get_or_default xs place c.index.result.now 0 within in
    let next = get_or xs (drop - 1) 0 + 1 in
    let k : c.index.result.now + 1 ≡ next =
    ap (λ n. n + 1) (count ∙ ap (λ p. get_or xs p 0) here) in
    let map : c.input.new.ram ≡ input_after machine.fixed.plan.drops drop next machine.ram =
    c.input.ensures.stored ∙ ap (λ n. input_after machine.cop drop n machine.ram) k
    ∙ ap (λ (d : List IoDrop). input_after d drop next machine.ram) sound.drops in
    let counts : set xs place (c.index.result.now + 1) ≡ set xs (drop - 1) next =
    ap (λ p. set xs p (c.index.result.now + 1)) here ∙ ap (set xs (drop - 1)) k in
    record {
      fixed = refl;
      state = λ i. record {
        solving = solve_state (map i) (discretes_on machine.past) machine.ladder.edges machine.bank
            machine.clock machine.watch.left;
        exchanges = counts i;
        gone = machine.gone;
        stop = machine.stop;
        powered = machine.powered;
        failures = machine.failures;
      };
      sound = record {
        runs = sound.runs;
        grids = sound.grids;
        drops = sound.drops;
        keeps = λ at h. c.input.ensures.keeps at (sound.keeps at h);
        past = sound.past;
        node = sound.node;
        routed = sound.routed;
        blocks = sound.blocks;
        few = sound.few;
        exchanges = length-set xs place (c.index.result.now + 1) ∙ size;
      };
      timely = λ steps timely. record {
        clock = let h = timely.clock in omega arith;
        exchanges = λ i.
            subst (λ n. get_or (set xs place (n + 1)) i 0 ≤ steps + 1) (sym count)
            (counted xs place steps timely.exchanges within i);
        gone = let h = timely.gone in omega arith;
        failures = let h = timely.failures in omega arith;
      };
    }
