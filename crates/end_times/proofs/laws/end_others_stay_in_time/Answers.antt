use Rattle.end_times.proofs.Turn.{others-in-time}
use Rattle.end_times.proofs.laws.end_others_stay_in_time.Goals as goal

pub returns : goal.returns
returns c = others-in-time
