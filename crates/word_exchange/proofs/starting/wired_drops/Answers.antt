use Rattle.std.proofs.Common.{◌+◌, refl}
use Rattle.word_exchange.proofs.StartLemmas.{wired-more}
use Rattle.word_exchange.proofs.starting.wired_drops.Goals as goal

pub loop-wire-preserved : goal.loop-wire-preserved
loop-wire-preserved c =
    let at = c.loop-wire.wire-index in
    wired-more c.args.plant.now c.args.wires.now c.args.froms.now c.args.readers.now at (at + 1) _ _
    c.loop-wire.wired.items c.add_wired.new.wired.items c.loop-wire-test.true refl refl
    c.in_ok-add_wired.ensures c.loop-wire.invariant
