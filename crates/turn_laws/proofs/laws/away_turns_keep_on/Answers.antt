use Rattle.joint_history.proofs.Collected.{CallLaws}
use Rattle.turn_laws.proofs.Turns.{back-keeps}
use Rattle.turn_laws.proofs.laws.away_turns_keep_on.Goals as goal

pub returns : goal.returns
returns c =
    let laws : CallLaws = record {
      segments = c.segments_keep_calls.ensures;
      taking = c.calls_are_taken_in_order.ensures;
      finishing = c.finishes_end_one_call.ensures;
      tables = c.stays_table.ensures;
    } in
    λ alone_ram alone_ring fixed net n joined known new_known ring new_ring t away old new k.
    back-keeps laws fixed alone_ram alone_ring net n joined known new_known ring new_ring t away old
    new k
    (c.turns_stay_in_time.ensures.away alone_ram alone_ring fixed n joined known new_known ring
    new_ring t k.timely)
