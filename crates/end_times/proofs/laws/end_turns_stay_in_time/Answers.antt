use Rattle.end_times.proofs.Turn.{end-in-time}
use Rattle.end_times.proofs.laws.end_turns_stay_in_time.Goals as goal

pub returns : goal.returns
returns c = end-in-time
