use Rattle.joint_history.proofs.Collected.{CallLaws}
use Rattle.route_laws.proofs.AtEnd.{effects-at-end}
use Rattle.route_laws.proofs.laws.effects_are_at_their_end.Goals as goal

pub returns : goal.returns
returns c =
    let laws : CallLaws = record {
      segments = c.segments_keep_calls.ensures;
      taking = c.calls_are_taken_in_order.ensures;
      finishing = c.finishes_end_one_call.ensures;
      tables = c.stays_table.ensures;
    } in
    effects-at-end laws c.success_is_one_effect_on_way.ensures
