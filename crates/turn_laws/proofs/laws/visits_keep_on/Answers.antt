use Rattle.joint_history.proofs.Collected.{CallLaws}
use Rattle.turn_laws.proofs.Turns.{visit-keeps}
use Rattle.turn_laws.proofs.laws.visits_keep_on.Goals as goal

pub returns : goal.returns
returns c =
    let laws : CallLaws = record {
      segments = c.segments_keep_calls.ensures;
      taking = c.calls_are_taken_in_order.ensures;
      finishing = c.finishes_end_one_call.ensures;
      tables = c.stays_table.ensures;
    } in
    λ alone_ram alone_ring fixed net n known new_known ring new_ring v old new k.
    visit-keeps laws fixed alone_ram alone_ring net n known new_known ring new_ring v old new k
    (c.turns_stay_in_time.ensures.visits alone_ram alone_ring fixed net n known new_known ring
    new_ring old.node new.legal v k.timely)
