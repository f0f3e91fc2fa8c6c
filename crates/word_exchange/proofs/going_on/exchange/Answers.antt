use Rattle.word_exchange.proofs.Onward.{all-can-count, can-take, exchanged-once, mid-read, mid-some}
use Rattle.word_exchange.proofs.going_on.exchange.Goals as goal

pub feed_all-requires : goal.feed_all-requires
feed_all-requires c =
    can-take c.args._plant.now c.args._wires.now c.args._scans c.args.readers.now c.args.wired.now
    c.args.serial c.requires.so_far

pub repeat-requires-clause-stands : goal.repeat-requires-clause-stands
repeat-requires-clause-stands c =
    mid-some c.args._plant.now c.args._wires.now c.args._scans c.args.readers.now c.args.wired.now
    c.args.serial c.requires.so_far c.feed_all.new.wired c.feed_all.new.serial
    c.in_ok-feed_all.ensures

pub repeat-requires-clause-read : goal.repeat-requires-clause-read
repeat-requires-clause-read c =
    mid-read c.args._plant.now c.args._wires.now c.args._scans c.args.readers.now c.args.wired.now
    c.args.serial c.requires.so_far c.feed_all.new.wired c.feed_all.new.serial
    c.in_ok-feed_all.ensures

pub count_all-requires : goal.count_all-requires
count_all-requires c =
    all-can-count c.args._plant.now c.args._wires.now c.args._scans c.args.readers.now
    c.args.wired.now c.args.serial c.requires.so_far c.feed_all.new.wired c.feed_all.new.serial
    c.in_ok-feed_all.ensures c.in_ok-serial.serial c.in_ok-serial.goes_on c.repeat.new.readers
    c.requires.left c.in_ok-serial.ensures

pub returns : goal.returns
returns c =
    exchanged-once c.args._plant.now c.args._wires.now c.args._scans c.args.readers.now
    c.args.wired.now c.args.serial c.requires.so_far c.feed_all.new.wired c.feed_all.new.serial
    c.in_ok-feed_all.ensures c.in_ok-serial.serial c.in_ok-serial.goes_on c.repeat.new.readers
    c.requires.left c.in_ok-serial.ensures c.count_all.new.wired c.count_all.ensures
