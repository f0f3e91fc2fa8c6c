use Rattle.std.proofs.Common.{take}
use Rattle.std.specs.List.{AllZip}
use Rattle.word_exchange.specs.Starting.{IsReaderAtStart}
use Rattle.word_exchange.proofs.starting.readers_of.Given as goal

abbrev pub invariant-loop-from : goal.invariant-loop-from
invariant-loop-from l =
    AllZip (IsReaderAtStart l.plant) (take l.from-index l.froms) l.readers.items
