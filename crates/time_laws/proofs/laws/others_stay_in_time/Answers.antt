use Rattle.time_laws.proofs.HostTurn.{host-others-in-time, host-starts-in-time}
use Rattle.time_laws.proofs.Turn.{others-in-time, starts-in-time}
use Rattle.time_laws.proofs.laws.others_stay_in_time.Goals as goal

pub returns : goal.returns
returns c = record {
  controllers = others-in-time;
  hosts = host-others-in-time;
  starts = starts-in-time;
  host_starts = host-starts-in-time;
}
