use Rattle.end_times.proofs.Turn.{starts-in-time}
use Rattle.end_times.proofs.laws.ends_start_in_time.Goals as goal

pub returns : goal.returns
returns c = starts-in-time
