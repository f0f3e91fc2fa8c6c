use Rattle.std.proofs.Common.{◌+◌, arith}
use Rattle.word_exchange.specs.Running.{HasReadWithin, ReadsOn}
use Rattle.word_exchange.proofs.ReadingOn.{all-changed, item-as, none-changed, one-changed}
use Rattle.word_exchange.proofs.running.read_all.Goals as goal

pub loop-at-init : goal.loop-at-init
loop-at-init c = none-changed (ReadsOn c.args.serial.now) c.args.readers.now

pub read_on-requires : goal.read_on-requires
read_on-requires c =
    item-as (ReadsOn c.args.serial.now) (HasReadWithin c.args.serial.now) c.args.readers.now
    c.loop-at.readers c.loop-at.at c.index-readers-at.result c.loop-at-test.true c.requires
    c.loop-at.invariant

pub loop-at-preserved : goal.loop-at-preserved
loop-at-preserved c =
    let at = c.loop-at.at in
    one-changed (ReadsOn c.args.serial.now) c.args.readers.now c.loop-at.readers at (at + 1)
    c.index-readers-at.result c.read_on.new.self c.loop-at-test.true (omega arith)
    c.loop-at.invariant c.in_ok-read_on.ensures.ok

pub returns : goal.returns
returns c =
    let low = c.loop-at.auto.at-end in
    let high = c.loop-at-test.false in
    all-changed (ReadsOn c.args.serial.now) c.args.readers.now c.loop-at.readers c.loop-at.at
    (omega (arith, low, high)) c.loop-at.invariant
