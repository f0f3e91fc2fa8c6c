use Rattle.word_exchange.proofs.TakingRows.{can-feed, row-taken}
use Rattle.word_exchange.proofs.feeding.feed_row.Goals as goal

pub feed_row-requires : goal.feed_row-requires
feed_row-requires c =
    can-feed c.args.plan.now c.args.drop.now c.args.script.now c.args.row c.args.serial.now
    c.requires.can c.requires.fits

pub returns : goal.returns
returns c =
    row-taken c.feed_row.result c.args.plan.now c.args.drop.now c.args.script.now c.push.new.self
    c.args.row c.in_ok-copied.field-0 c.args.serial.now c.feed_row.new.self c.requires.can
    c.requires.fits c.in_ok-push.ensures.ok c.in_ok-copied.ensures c.feed_row.ensures.fed
