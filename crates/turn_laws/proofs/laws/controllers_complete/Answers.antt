use Rattle.turn_laws.proofs.Complete.{complete}
use Rattle.turn_laws.proofs.laws.controllers_complete.Goals as goal

pub returns : goal.returns
returns c = complete (record {
  segments = c.segments_keep_calls.ensures;
  taking = c.calls_are_taken_in_order.ensures;
  finishing = c.finishes_end_one_call.ensures;
  tables = c.stays_table.ensures;
})
