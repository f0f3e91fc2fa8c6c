use Rattle.joint_history.proofs.Collected.{CallLaws}
use Rattle.turn_laws.proofs.Turns.{turn-keeps}
use Rattle.turn_laws.proofs.laws.turns_keep_on.Goals as goal

pub returns : goal.returns
returns c =
    let laws : CallLaws = record {
      segments = c.segments_keep_calls.ensures;
      taking = c.calls_are_taken_in_order.ensures;
      finishing = c.finishes_end_one_call.ensures;
      tables = c.stays_table.ensures;
    } in
    λ alone_ram alone_ring fixed net n budget end known new_known ring new_ring t old new k.
    turn-keeps laws fixed alone_ram alone_ring net n budget end known new_known ring
    new_ring t old new k
    (c.turns_stay_in_time.ensures.turns alone_ram alone_ring fixed net n budget end known new_known
    ring new_ring old.node old.on new.legal t k.timely)
