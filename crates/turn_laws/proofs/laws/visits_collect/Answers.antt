use Rattle.joint_history.proofs.Collected.{CallLaws}
use Rattle.turn_laws.proofs.Uncollected.{ended-on, visits-collect}
use Rattle.turn_laws.proofs.laws.visits_collect.Goals as goal

pub returns-clause-visits : goal.returns-clause-visits
returns-clause-visits c =
    let laws : CallLaws = record {
      segments = c.segments_keep_calls.ensures;
      taking = c.calls_are_taken_in_order.ensures;
      finishing = c.finishes_end_one_call.ensures;
      tables = c.stays_table.ensures;
    } in
    visits-collect laws

pub returns-clause-ended : goal.returns-clause-ended
returns-clause-ended c = ended-on
