use Rattle.std.proofs.Common.{◌+◌, arith}
use Rattle.word_exchange.specs.Counting.{CanCount, Counts}
use Rattle.word_exchange.proofs.ReadingOn.{all-changed, item-as, none-changed, one-changed}
use Rattle.word_exchange.proofs.going_on.count_all.Goals as goal

pub loop-at-init : goal.loop-at-init
loop-at-init c = none-changed (Counts c.args.serial.now) c.args.wired.now

pub count_on-requires : goal.count_on-requires
count_on-requires c =
    item-as (Counts c.args.serial.now) (CanCount c.args.serial.now) c.args.wired.now
    c.loop-at.wired c.loop-at.at c.index-wired-at.result c.loop-at-test.true c.requires
    c.loop-at.invariant

pub loop-at-preserved : goal.loop-at-preserved
loop-at-preserved c =
    let at = c.loop-at.at in
    one-changed (Counts c.args.serial.now) c.args.wired.now c.loop-at.wired at (at + 1)
    c.index-wired-at.result c.count_on.new.self c.loop-at-test.true (omega arith)
    c.loop-at.invariant c.count_on.ensures

pub returns : goal.returns
returns c =
    let low = c.loop-at.auto.at-end in
    let high = c.loop-at-test.false in
    all-changed (Counts c.args.serial.now) c.args.wired.now c.loop-at.wired c.loop-at.at
    (omega (arith, low, high)) c.loop-at.invariant
