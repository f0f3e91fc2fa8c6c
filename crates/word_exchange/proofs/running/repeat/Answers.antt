use Rattle.word_exchange.proofs.Repeating.{all-came, all-have}
use Rattle.word_exchange.proofs.running.repeat.Goals as goal

pub read_all-requires : goal.read_all-requires
read_all-requires c =
    let readers = c.args.readers.now in
    all-have c.args.serial c.in_ok-serial.serial readers
    (all-came c.repetitions_go_on.ensures c.readers_follow.ensures c.args.serial
    c.in_ok-serial.serial c.in_ok-serial.goes_on readers c.requires.stands c.in_ok-serial.ensures
    c.requires.read)

pub returns : goal.returns
returns c = record {
  turned = c.in_ok-serial.ensures;
  came = all-came c.repetitions_go_on.ensures c.readers_follow.ensures c.args.serial
      c.in_ok-serial.serial c.in_ok-serial.goes_on c.args.readers.now c.requires.stands
      c.in_ok-serial.ensures c.requires.read;
  read = c.in_ok-read_all.ensures;
}
