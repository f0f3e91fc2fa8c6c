use Rattle.std.proofs.Common.{sym, ◌∙◌, arith}
use Rattle.std.proofs.lemmas.List.{length_push}
use Rattle.cell_text.proofs.SlotLemmas.{behind-missing, behind-none, behind-more}
use Rattle.cell_text.proofs.slots.operands_in.Goals as goal

pub returns-in_err-word : goal.returns-in_err-word
returns-in_err-word c =
    c.from_residual.ensures
    ∙ sym (c.loop-slot.invariant.all
    ∙ behind-missing c.loop-slot.operands c.args.slots.now c.loop-slot.slot-index _
    c.loop-slot-test.true c.in_err-word.ensures)

pub returns-in_err-operand_in : goal.returns-in_err-operand_in
returns-in_err-operand_in c =
    c.from_residual-in_err-operand_in.ensures ∙ sym (c.loop-slot.invariant.all
    ∙ behind-none c.loop-slot.operands c.args.slots.now c.loop-slot.slot-index _ _
    c.in_ok-word.word.now c.loop-slot-test.true
    c.in_ok-word.ensures c.in_err-operand_in.ensures)

pub loop-slot-preserved : goal.loop-slot-preserved
loop-slot-preserved c = record {
  count = let pushed = length_push c.loop-slot.operands c.in_ok-operand_in.field-0 in grind arith;
  all = c.loop-slot.invariant.all
      ∙ behind-more c.loop-slot.operands _ c.args.slots.now c.loop-slot.slot-index _ _
      c.in_ok-word.word.now
      c.in_ok-operand_in.field-0 c.loop-slot-test.true c.in_ok-word.ensures
      c.in_ok-operand_in.ensures c.push.ensures;
}
