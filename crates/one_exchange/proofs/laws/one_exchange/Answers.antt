use Rattle.one_exchange.proofs.Exchanges.{one}
use Rattle.one_exchange.proofs.laws.one_exchange.Goals as goal

pub returns : goal.returns
returns c = one (record {
  exchanges = record {
    counts = c.exchanges_are_counted.ensures;
    exchanges = c.repetitions_exchange.ensures;
    go_on = c.repetitions_go_on.ensures;
    rules = c.rows_follow_rules.ensures;
    stay = c.rows_stay.ensures;
  };
  calls = record {
    segments = c.segments_keep_calls.ensures;
    taking = c.calls_are_taken_in_order.ensures;
    finishing = c.finishes_end_one_call.ensures;
    tables = c.stays_table.ensures;
  };
  runs = c.one_serial_run.ensures;
})
