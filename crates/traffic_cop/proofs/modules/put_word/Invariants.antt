use Rattle.std.proofs.Common.{◌≡◌, take}
use Rattle.plant_types.specs.Store.{with_words}
use Rattle.plant_types.specs.Discretes.{bit_words, word_bits}
use Rattle.traffic_cop.proofs.modules.put_word.Given as goal

abbrev pub invariant-loop-place : goal.invariant-loop-place
invariant-loop-place g l =
    g.R.RefStore.contents l.ram
    ≡ with_words (g.R.RefStore.contents l.initial.ram) l.at
    (take l.place (bit_words (word_bits l.word)))
