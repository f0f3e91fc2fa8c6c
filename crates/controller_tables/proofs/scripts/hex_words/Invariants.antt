use Rattle.std.proofs.Common.{◌≡◌, length}
use Rattle.cell_text.specs.Words.{text_words}
use Rattle.plant_tables.specs.InOrder.{with_front, each_of}
use Rattle.controller_tables.specs.Drops.{word_spelled}
use Rattle.controller_tables.proofs.scripts.hex_words.Given as goal

-- the values so far, before those of the words left
abbrev pub invariant-loop-word : goal.invariant-loop-word
invariant-loop-word l = with_front l.words.items (each_of (word_spelled l.place)
    (text_words l.rest)) ≡ each_of (word_spelled l.place) (text_words l.fn.text)

-- each turn takes a word
abbrev pub decreases-loop-word : goal.decreases-loop-word
decreases-loop-word l = length (text_words l.rest)
