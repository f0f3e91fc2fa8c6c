use Rattle.std.proofs.Common.{List, sym, ap, subst, ◌∙◌}
use Rattle.peer_cop.specs.declared.wire.Wire.{Wire}
use Rattle.peer_cop.specs.Plants.{FitsPlant}
use Rattle.peer_cop.proofs.TestedLemmas.{tested-wired}
use Rattle.word_exchange.specs.declared.feeding.WiredDrop.{WiredDrop}
use Rattle.word_exchange.specs.declared.running.WireReader.{WireReader}
use Rattle.word_exchange.specs.Exchanging.{IsExchanging}
use Rattle.word_exchange.specs.Scripts.{plant_by}
use Rattle.word_exchange.specs.Sources.{AreFroms}
use Rattle.word_exchange.specs.Starting.{rule_of, AreWiredAtStart}
use Rattle.word_exchange.proofs.Beginning.{all-among, begun-exchanging, begun-runs, gone-at-start}
use Rattle.word_exchange.proofs.wired.cop_run.Goals as goal

pub readers_of-requires-clause-wired : goal.readers_of-requires-clause-wired
readers_of-requires-clause-wired c =
    tested-wired c.args.plant.now c.requires.runs.sound c.requires.tested

pub readers_of-requires-clause-fit : goal.readers_of-requires-clause-fit
readers_of-requires-clause-fit c =
    let wires = c.args.wires.now in
    let all = subst (AreFroms wires) (sym c.as_slice.ensures.value) c.in_ok-froms.ensures in
    all-among (FitsPlant c.args.plant.now) wires c.as_slice.result.now c.requires.wires.fit all.each

pub wired_drops-requires-clause-wired : goal.wired_drops-requires-clause-wired
wired_drops-requires-clause-wired c =
    tested-wired c.args.plant.now c.requires.runs.sound c.requires.tested

pub new-requires-clause-plant : goal.new-requires-clause-plant
new-requires-clause-plant c =
    let plant = c.args.plant.now in
    let wires = c.args.wires.now in
    let froms = c.as_slice.result.now in
    let readers = c.in_ok-readers.readers.items in
    let wired = c.in_ok-wired.wired.items in
    begun-runs plant wires froms readers wired c.in_ok-begun.begun (record {
      can = record {
        runs = c.requires.runs;
        tested = c.requires.tested;
        wires_are = c.requires.wires;
      };
      all = subst (AreFroms wires) (sym c.as_slice.ensures.value) c.in_ok-froms.ensures;
      starts = c.in_ok-readers.ensures;
      wired_are = subst (λ (l : List WireReader). AreWiredAtStart plant wires froms l wired)
          c.as_slice-3.ensures.value
          (subst (λ (l : List Wire). AreWiredAtStart plant wires l c.as_slice-3.result.now wired)
          (c.as_slice-2.ensures.value ∙ sym c.as_slice.ensures.value) c.in_ok-wired.ensures);
      begun_is = c.in_ok-begun.ensures
          ∙ ap (λ (l : List WiredDrop). plant_by (rule_of l) plant) c.as_slice-4.ensures.value;
    })

pub run_out-requires-clause-so_far : goal.run_out-requires-clause-so_far
run_out-requires-clause-so_far c =
    let plant = c.args.plant.now in
    let wires = c.args.wires.now in
    let froms = c.as_slice.result.now in
    let readers = c.in_ok-readers.readers.items in
    let wired = c.in_ok-wired.wired.items in
    let scans = c.args.scans in
    let serial = c.in_ok-serial.serial in
    subst (λ (l : List WireReader).
    IsExchanging plant wires scans l c.as_mut_slice-2.result.now serial)
    (sym c.as_mut_slice.ensures.value)
    (subst (λ (l : List WiredDrop). IsExchanging plant wires scans readers l serial)
    (sym c.as_mut_slice-2.ensures.value)
    (begun-exchanging plant wires froms readers wired c.in_ok-begun.begun (record {
      can = record {
        runs = c.requires.runs;
        tested = c.requires.tested;
        wires_are = c.requires.wires;
      };
      all = subst (AreFroms wires) (sym c.as_slice.ensures.value) c.in_ok-froms.ensures;
      starts = c.in_ok-readers.ensures;
      wired_are = subst (λ (l : List WireReader). AreWiredAtStart plant wires froms l wired)
          c.as_slice-3.ensures.value
          (subst (λ (l : List Wire). AreWiredAtStart plant wires l c.as_slice-3.result.now wired)
          (c.as_slice-2.ensures.value ∙ sym c.as_slice.ensures.value) c.in_ok-wired.ensures);
      begun_is = c.in_ok-begun.ensures
          ∙ ap (λ (l : List WiredDrop). plant_by (rule_of l) plant) c.as_slice-4.ensures.value;
    })
    scans serial c.in_ok-serial.ensures))

pub run_out-requires-clause-starts : goal.run_out-requires-clause-starts
run_out-requires-clause-starts c =
    gone-at-start c.in_ok-begun.begun c.args.scans c.in_ok-serial.serial c.in_ok-serial.ensures
