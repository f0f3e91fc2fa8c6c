use Rattle.one_run.proofs.Whole.{turns-run}
use Rattle.one_run.proofs.laws.one_turns_run.Goals as goal

pub returns : goal.returns
returns c = turns-run (record {
  segments = c.segments_keep_calls.ensures;
  taking = c.calls_are_taken_in_order.ensures;
  finishing = c.finishes_end_one_call.ensures;
  tables = c.stays_table.ensures;
})
