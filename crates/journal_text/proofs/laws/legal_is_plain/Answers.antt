use Rattle.journal_text.proofs.LegalLists.{legal-is_plain}
use Rattle.journal_text.proofs.laws.legal_is_plain.Goals as goal

pub returns : goal.returns
returns c = legal-is_plain (record {
  segments = c.segments_keep_calls.ensures;
  taking = c.calls_are_taken_in_order.ensures;
  finishing = c.finishes_end_one_call.ensures;
  tables = c.stays_table.ensures;
}) c.only_its_target.ensures c.reply_to_its_caller.ensures
