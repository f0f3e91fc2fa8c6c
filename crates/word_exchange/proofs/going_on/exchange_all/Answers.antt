use Rattle.std.proofs.Common.{not, sym, ap}
use Rattle.word_exchange.proofs.Onward.{all-gone, not-gone}
use Rattle.word_exchange.proofs.going_on.exchange_all.Goals as goal

pub repetitions-init : goal.repetitions-init
repetitions-init c = record {
  now = c.requires.so_far;
  goes_on_is = ap not (sym c.requires.starts);
}

pub repetitions-preserved : goal.repetitions-preserved
repetitions-preserved c = record {
  now = c.in_ok-next.ensures.now;
  goes_on_is = c.in_ok-next.ensures.goes_on_is;
}

pub exchange-requires-clause-left : goal.exchange-requires-clause-left
exchange-requires-clause-left c =
    not-gone _ c.repetitions.goes_on c.repetitions-test.true c.repetitions.invariant.goes_on_is

pub returns : goal.returns
returns c = record {
  now = c.repetitions.invariant.now;
  gone = all-gone _ c.repetitions.goes_on c.repetitions-test.false
      c.repetitions.invariant.goes_on_is;
}
