use Rattle.std.proofs.Common.{◌≡◌, drop}
use lib.Pointwise.{pointwise}
use Rattle.cell_text.specs.Words.{text_words}
use Rattle.cell_text.specs.Slots.{passes_word_test}
use Rattle.cell_text.proofs.slots.all_pass.Given as goal

-- the words left pass at the slots left exactly where all words pass at all slots
abbrev pub invariant-loop-slot : goal.invariant-loop-slot
invariant-loop-slot l =
    pointwise (passes_word_test l.test) (drop l.slot-index l.slots) (text_words l.rest) ≡ pointwise
    (passes_word_test l.test) l.slots (text_words l.fn.text)
