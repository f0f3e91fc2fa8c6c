use Rattle.std.proofs.Common.{◌≡◌, ◌+◌, ◌++◌, drop, map}
use Rattle.std.specs.List.{enumerate_from}
use Rattle.word_exchange.specs.Sources.{word_brought}
use Rattle.word_exchange.proofs.rows.words_made.Given as goal

abbrev pub invariant-loop-at : goal.invariant-loop-at
invariant-loop-at l =
    l.words.items ++ map (word_brought l.readers l.sources)
    (enumerate_from (l.at + 1) (drop l.at l.own))
    ≡ map (word_brought l.readers l.sources) (enumerate_from 1 l.own)
