use Rattle.joint_history.proofs.Collected.{CallLaws}
use Rattle.route_laws.proofs.Offs.{offs-no-effect}
use Rattle.route_laws.proofs.laws.offs_have_no_effect.Goals as goal

pub returns : goal.returns
returns c =
    let laws : CallLaws = record {
      segments = c.segments_keep_calls.ensures;
      taking = c.calls_are_taken_in_order.ensures;
      finishing = c.finishes_end_one_call.ensures;
      tables = c.stays_table.ensures;
    } in
    offs-no-effect laws
