use Rattle.std.proofs.Common.{ap, arith}
use Rattle.traffic_cop.specs.Exchange.{input_total}
use Rattle.peer_cop.proofs.PlantLemmas.{at_drop}
use Rattle.word_exchange.proofs.starting.wired_drop.Goals as goal

pub input_total-total-requires : goal.input_total-total-requires
input_total-total-requires c =
    let wire = c.args.wire in
    let same = ap input_total c.as_slice.ensures in
    let small = (at_drop c.args.plant.now wire.node wire.drop c.drop_at-found.result.drop.now
    c.requires.wired c.drop_at-found.ensures.drop_is).small.inputs in
    omega (arith, same, small)

pub own_row-requires : goal.own_row-requires
own_row-requires c =
    let wire = c.args.wire in
    (at_drop c.args.plant.now wire.node wire.drop c.drop_at-found.result.drop.now c.requires.wired
    c.drop_at-found.ensures.drop_is).small.inputs
