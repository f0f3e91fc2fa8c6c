use Rattle.std.proofs.Common.{◌≤◌, length, max}
use Rattle.word_exchange.specs.Feeding.{rows_from, CanTakeRows, TakesRows}
use Rattle.word_exchange.proofs.feeding.feed_rows.Given as goal

abbrev pub invariant-loop-there : goal.invariant-loop-there
invariant-loop-there l = record {
  can : CanTakeRows l.plan l.drop l.script l.serial;
  takes : TakesRows l.plan l.drop
      (rows_from l.readers l.sources l.drop (length l.fn.script) l.there)
      l.fn.script l.script l.fn.serial l.serial;
  low : length l.fn.script ≤ l.there;
  high : l.there ≤ max (length l.fn.script) l.needed;
}
