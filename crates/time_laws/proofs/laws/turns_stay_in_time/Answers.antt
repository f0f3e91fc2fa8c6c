use Rattle.comm_port.proofs.JointHistory.{CallLaws}
use Rattle.time_laws.proofs.Legal.{legal-turn, legal-visit, legal-host}
use Rattle.time_laws.proofs.Turn.{back-in-time}
use Rattle.time_laws.proofs.laws.turns_stay_in_time.Goals as goal

pub returns : goal.returns
returns c =
    let laws : CallLaws = record {
      segments = c.segments_keep_calls.ensures;
      taking = c.calls_are_taken_in_order.ensures;
      finishing = c.finishes_end_one_call.ensures;
      tables = c.stays_table.ensures;
    } in
    record {
      turns = legal-turn laws;
      away = back-in-time;
      visits = legal-visit laws;
      hosts = legal-host;
    }
