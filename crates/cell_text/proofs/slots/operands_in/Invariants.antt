use Rattle.std.proofs.Common.{◌≡◌, length, drop}
use Rattle.cell_text.specs.Words.{text_words}
use Rattle.cell_text.specs.Slots.{operands_in}
use Rattle.cell_text.proofs.SlotLemmas.{behind}
use Rattle.cell_text.proofs.slots.operands_in.Given as goal

-- the operands so far stand before those of the words left
abbrev pub invariant-loop-slot : goal.invariant-loop-slot
invariant-loop-slot l = record {
  count : length l.operands ≡ l.slot-index;
  all : operands_in l.slots (text_words l.fn.text)
      ≡ behind l.operands (operands_in (drop l.slot-index l.slots) (text_words l.rest));
}
