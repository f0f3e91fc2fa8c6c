use Rattle.std.proofs.Common.{◌+◌, length, arith, ap}
use Rattle.word_exchange.proofs.TakingRows.{can-more, fits-as, made-fits, own-as, takes-all}
use Rattle.word_exchange.proofs.TakingRows.{takes-more, takes-none}
use Rattle.word_exchange.proofs.feeding.feed_rows.Goals as goal

pub loop-there-init : goal.loop-there-init
loop-there-init c =
    let there = ap length c.as_slice.ensures in
    record {
      can = c.requires;
      takes = takes-none c.args.plan.now c.args.drop.now c.args.readers.now c.args.sources.now c.args.script.now _
          c.args.serial.now there;
      low = omega (arith, there);
      high = omega (arith, there);
    }

pub feed_row-requires-clause-can : goal.feed_row-requires-clause-can
feed_row-requires-clause-can c = c.loop-there.invariant.can

pub feed_row-requires-clause-fits : goal.feed_row-requires-clause-fits
feed_row-requires-clause-fits c =
    let drop = c.args.drop.now in
    let exchange = c.loop-there.there + 1 in
    fits-as drop.modules _ _ c.in_ok-row.ensures
    (made-fits drop.modules c.args.readers.now c.args.sources.now (c.in_ok-own.own) (own-as drop exchange _ c.requires.own c.in_ok-own.ensures))

pub loop-there-preserved : goal.loop-there-preserved
loop-there-preserved c =
    let plan = c.args.plan.now in
    let drop = c.args.drop.now in
    let row = c.in_ok-row.row in
    let there = c.loop-there.there in
    let so_far = c.loop-there.invariant in
    let one = c.in_ok-feed_row.ensures in
    let low = so_far.low in
    let test = c.loop-there-test.true in
    record {
      can = can-more plan drop c.loop-there.script c.feed_row.new.script row c.loop-there.serial
          c.feed_row.new.serial so_far.can one;
      takes = takes-more plan drop c.args.readers.now c.args.sources.now c.args.script.now c.loop-there.script
          c.feed_row.new.script there (there + 1) row c.in_ok-own.own c.args.serial.now
          c.loop-there.serial c.feed_row.new.serial so_far.low (omega arith) c.in_ok-row.ensures
          c.in_ok-own.ensures so_far.takes one;
      low = omega (arith, low);
      high = omega (arith, test);
    }

pub returns : goal.returns
returns c =
    let so_far = c.loop-there.invariant in
    let test = c.loop-there-test.false in
    takes-all c.args.plan.now c.args.drop.now c.args.readers.now c.args.sources.now c.args.script.now
    c.loop-there.script c.loop-there.there c.args.needed c.args.serial.now c.loop-there.serial
    so_far.low so_far.high test so_far.takes
