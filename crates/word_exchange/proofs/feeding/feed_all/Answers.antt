use Rattle.std.proofs.Common.{◌+◌, arith, refl}
use Rattle.word_exchange.proofs.GivingRows.{all-given, can-give, none-given, one-given}
use Rattle.word_exchange.proofs.feeding.feed_all.Goals as goal

pub loop-at-init : goal.loop-at-init
loop-at-init c = none-given c.args.readers.now c.args.wired.now c.args.serial.now

pub feed-requires : goal.feed-requires
feed-requires c =
    can-give c.args.readers.now c.args.wired.now c.loop-at.wired c.loop-at.at
    c.index-wired-at.result c.args.serial.now c.loop-at.serial c.loop-at-test.true c.requires
    c.loop-at.invariant

pub loop-at-preserved : goal.loop-at-preserved
loop-at-preserved c =
    let at = c.loop-at.at in
    one-given c.args.readers.now c.args.wired.now c.loop-at.wired at (at + 1)
    c.index-wired-at.result c.feed.new.self c.args.serial.now c.loop-at.serial c.feed.new.serial
    c.loop-at-test.true refl c.loop-at.invariant c.in_ok-feed.ensures

pub returns : goal.returns
returns c =
    let low = c.loop-at.auto.at-end in
    let high = c.loop-at-test.false in
    all-given c.args.readers.now c.args.wired.now c.loop-at.wired c.loop-at.at c.args.serial.now
    c.loop-at.serial (omega (arith, low, high)) c.loop-at.invariant
