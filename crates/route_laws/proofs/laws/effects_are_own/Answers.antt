use Rattle.joint_history.proofs.Collected.{CallLaws}
use Rattle.route_laws.proofs.Own.{effects-own}
use Rattle.route_laws.proofs.laws.effects_are_own.Goals as goal

pub returns : goal.returns
returns c =
    let laws : CallLaws = record {
      segments = c.segments_keep_calls.ensures;
      taking = c.calls_are_taken_in_order.ensures;
      finishing = c.finishes_end_one_call.ensures;
      tables = c.stays_table.ensures;
    } in
    effects-own laws
