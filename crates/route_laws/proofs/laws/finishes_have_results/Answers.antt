use Rattle.joint_history.proofs.Collected.{CallLaws}
use Rattle.route_laws.proofs.Results.{finishes-have-results}
use Rattle.route_laws.proofs.laws.finishes_have_results.Goals as goal

pub returns : goal.returns
returns c =
    let laws : CallLaws = record {
      segments = c.segments_keep_calls.ensures;
      taking = c.calls_are_taken_in_order.ensures;
      finishing = c.finishes_end_one_call.ensures;
      tables = c.stays_table.ensures;
    } in
    finishes-have-results laws
